use Rattle.checks.specs.Causes.{point_cause}
use Rattle.checks.proofs.point.Goals as goal

pub returns : goal.returns
unfolding point_cause
returns c = rw (c.lower-2.ensures, c.lower.ensures, c.float-3.ensures, c.float-2.ensures, c.float.ensures)
