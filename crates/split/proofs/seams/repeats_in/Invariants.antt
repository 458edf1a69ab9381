use Rattle.std.proofs.Common.{◌≡◌, ℕ, ◌<◌, false, [], length, get_or, drop}
use Rattle.split.specs.seams.Seams.{stands, repeats_after}
use Rattle.split.proofs.seams.Repeats.{before}
use Rattle.split.proofs.seams.repeats_in.Given as goal

-- The table has an entry for each vertex that stood before, and none stood twice.
abbrev pub invariant-loop-v : goal.invariant-loop-v
invariant-loop-v g l = record {
  long : length l.seen ≡ g.row.N;
  entries : (v : ℕ) → v < g.row.N → get_or l.seen v false ≡ stands v (before l.divisor l.v-index);
  rest : repeats_after [] l.divisor ≡ repeats_after (before l.divisor l.v-index) (drop l.v-index l.divisor);
}
