use Rattle.std.proofs.Common.{◌≡◌, ℕ, ◌<◌, length, get_or, take}
use Rattle.walk.specs.marks.Marks.{occurs}
use Rattle.walk.proofs.marks.duplicated_edges.Given as goal

abbrev pub invariant-loop-u : goal.invariant-loop-u
invariant-loop-u l = (k : ℕ) → k < length l.initial.marks → get_or l.marks k 0 ≡ occurs k (take l.u-index l.face)
