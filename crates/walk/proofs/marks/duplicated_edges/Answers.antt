use Rattle.std.proofs.Common.{arith}
use Rattle.walk.specs.marks.Marks.{occurs}
use Rattle.walk.proofs.marks.Marks.{count_le, counted_more}
use Rattle.walk.proofs.marks.duplicated_edges.Goals as goal

pub loop-u-init : goal.loop-u-init
unfolding occurs
loop-u-init c = λ k h. c.requires.blank k

pub overflow_add-marks : goal.overflow_add-marks
overflow_add-marks c =
    let lt = c.loop-u-test.true in
    omega (arith, count_le _ _ _ _ c.loop-u.invariant lt c.loop-u.auto.marks (c.requires.known _ lt), c.requires.few)

pub loop-u-preserved : goal.loop-u-preserved
loop-u-preserved c =
    let lt = c.loop-u-test.true in
    counted_more _ _ _ _ c.loop-u.invariant lt c.loop-u.auto.marks (c.requires.known _ lt)
