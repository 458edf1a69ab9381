use Rattle.std.proofs.Common.{refl, ◌∙◌, ◌≡◌, false, length, arith, length-set}
use Rattle.std.proofs.lemmas.List.{length-replicate, get_or-replicate}
use Rattle.split.specs.seams.Seams.{stands}
use Rattle.split.proofs.seams.Repeats.{before, repeats_next, entries_more, none_left}
use Rattle.split.proofs.seams.repeats_in.Goals as goal

pub loop-v-init : goal.loop-v-init
unfolding before stands
loop-v-init g c = record { long = length-replicate g.row.N false; entries = λ v h. get_or-replicate g.row.N v false false h; rest = refl }

pub returns-then-seen-v : goal.returns-then-seen-v
returns-then-seen-v g c =
    let l = c.loop-v in
    let lt = c.loop-v-test.true in
    rw (l.invariant.rest, repeats_next _ _ _ _ l.invariant.entries lt (c.requires.known _ lt), c.if-seen-v.true)

pub loop-v-preserved : goal.loop-v-preserved
loop-v-preserved g c =
    let l = c.loop-v in
    let lt = c.loop-v-test.true in
    let known = c.requires.known _ lt in
    record {
      long = length-set l.seen _ _ ∙ l.invariant.long;
      entries = entries_more _ _ _ _ l.invariant.entries lt known l.invariant.long;
      rest = l.invariant.rest ∙ rw (repeats_next _ _ _ _ l.invariant.entries lt known, c.if-seen-v.false);
    }

pub returns : goal.returns
returns g c =
    let all : c.loop-v.v-index ≡ length c.args.divisor.now = omega arith in
    rw (c.loop-v.invariant.rest, all, none_left)
