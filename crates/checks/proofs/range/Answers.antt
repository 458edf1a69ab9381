use Rattle.checks.specs.Causes.{range_cause}
use Rattle.checks.proofs.range.Goals as goal

pub returns : goal.returns
unfolding range_cause
returns c = rw (c.lower-2.ensures, c.lower.ensures, c.cause_when.ensures, c.float-2.ensures, c.float.ensures)
