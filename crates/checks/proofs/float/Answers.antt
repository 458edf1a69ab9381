use Rattle.checks.specs.Causes.{float_cause}
use Rattle.checks.proofs.float.Goals as goal

pub returns : goal.returns
unfolding float_cause
returns c = rw (c.cause_when.ensures, c.is_sized.ensures)
