use Rattle.checks.specs.Causes.{curve_cause}
use Rattle.checks.proofs.Lowest.{lower_same}
use Rattle.checks.proofs.curve.Goals as goal

pub returns-in-Span : goal.returns-in-Span
unfolding curve_cause
returns-in-Span c = rw c.in-Span.is c.range.ensures

pub returns-in-Seam : goal.returns-in-Seam
unfolding curve_cause
returns-in-Seam c =
    rw c.in-Seam.is
    (lower_same c.uv.ensures (lower_same c.uv-in-Seam.ensures c.range-in-Seam.ensures c.lower.ensures) c.lower-in-Seam.ensures)
