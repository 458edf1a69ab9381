use Rattle.checks.specs.Causes.{parameter_cause}
use Rattle.checks.proofs.parameter.Goals as goal

pub returns : goal.returns
unfolding parameter_cause
returns c = rw (c.lower-2.ensures, c.lower.ensures, c.cause_when-2.ensures, c.cause_when.ensures, c.float.ensures)
