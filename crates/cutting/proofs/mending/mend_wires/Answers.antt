use Rattle.std.proofs.Common.{arith}
use Rattle.checks.proofs.Accepted.{wires_accepted}
use Rattle.cutting.proofs.mending.mend_wires.Goals as goal

pub total_uses-requires : goal.total_uses-requires
total_uses-requires g c =
    let v = c.view-lent.ensures in
    let W = wires_accepted _ _ _ _ c.requires.wires_value in
    rw (v.count_value, v.lengths_value) (W.below, W.lengths)

pub mend_within-requires-clause-uses_few : goal.mend_within-requires-clause-uses_few
mend_within-requires-clause-uses_few g c =
    let v = c.view-lent.ensures in
    let t = rw (v.count_value, v.lengths_value) at c.total_uses.ensures in
    omega (arith, t, c.if-total_uses-le64.true)

pub mend_within-requires-else-total_uses-le64-clause-uses_few : goal.mend_within-requires-else-total_uses-le64-clause-uses_few
mend_within-requires-else-total_uses-le64-clause-uses_few g c = omega (arith, (wires_accepted _ _ _ _ c.requires.wires_value).few)
