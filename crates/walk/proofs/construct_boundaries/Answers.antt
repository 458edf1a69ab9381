use Rattle.std.proofs.Common.{rules, ◌<◌, length, sym, ◌∙◌, refl, arith}
use Rattle.walk.proofs.lists.Chains.{lists_all}
use Prim.Native.Nat.{ℕ}
use Rattle.compress.proofs.Cells.{all_alike}
use Rattle.walk.proofs.Small.{front_small, back_small}
use Rattle.walk.proofs.Walks.{between_start, between_some, between_done, between_begin, along_on, along_stop, along_close, found}
use Rattle.walk.proofs.construct_boundaries.Goals as goal

pub walk-init : goal.walk-init
walk-init c =
    let S = c.requires.sound in
    let e = c.create_vemap.ensures in
    between_start (rw (e.head_after, e.next_after) (lists_all _ _ _ _ refl refl (all_alike {A = ℕ} 0 4096) (all_alike {A = ℕ} 0 1024) S.few (front_small S)))
    (search rules) (search rules)

pub unwrap-start-requires : goal.unwrap-start-requires
unwrap-start-requires c =
    let B = c.walk.invariant in
    let lt : c.walk.taken < length c.args.uses.now = omega (arith, c.if-taken-uses.false, B.count_is) in
    found _ (between_some B lt c.lowest.ensures.least)

pub loop-v-init : goal.loop-v-init
loop-v-init c =
    let B = c.walk.invariant in
    let lt : c.walk.taken < length c.args.uses.now = omega (arith, c.if-taken-uses.false, B.count_is) in
    let e = c.pop-last.ensures in
    rw e.next_same (between_begin B lt c.requires.sound.few (rw c.unwrap-start.ensures at c.lowest.ensures.least) e.value e.head_after)

pub loop-v-preserved : goal.loop-v-preserved
loop-v-preserved c =
    let A = c.loop-v.invariant in
    let S = c.requires.sound in
    along_on A S.few (back_small S A.place _ A.place_lt A.last_at) (rw c.back-v.ensures at c.if-v-start.false) (rw c.back-v.ensures at c.in-Ok.ensures)

pub walk-preserved : goal.walk-preserved
walk-preserved c = along_close c.loop-v.invariant c.requires.sound.few (sym c.back-v.ensures ∙ c.if-v-start.true)

pub returns-then-taken-uses-clause-traced : goal.returns-then-taken-uses-clause-traced
returns-then-taken-uses-clause-traced c = between_done c.walk.invariant c.requires.sound.few c.if-taken-uses.true

pub returns-in-Err-clause-traced : goal.returns-in-Err-clause-traced
returns-in-Err-clause-traced c =
    along_stop c.loop-v.invariant _ _ (rw c.back-v.ensures at c.if-v-start.false) (rw c.back-v.ensures at c.in-Err.ensures)
