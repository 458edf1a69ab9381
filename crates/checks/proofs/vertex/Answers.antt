use Rattle.std.proofs.Common.{refl, ◌∙◌}
use Rattle.compress.specs.Points.{point_of}
use Rattle.checks.specs.Causes.{vertex_cause}
use Rattle.checks.proofs.Lowest.{lower_same}
use Rattle.checks.proofs.vertex.Goals as goal

pub returns-in-Given : goal.returns-in-Given
unfolding vertex_cause point_of
returns-in-Given c = rw c.in-Given.is (rw (c.from.ensures, c.in-Given.is) at c.point.ensures)

pub returns-in-Pending : goal.returns-in-Pending
unfolding vertex_cause
returns-in-Pending c =
    rw c.in-Pending.is (lower_same c.curve.ensures (c.parameter.ensures ∙ rw (c.range-t0.ensures.0, c.range-t0.ensures.1) refl) c.lower.ensures)
