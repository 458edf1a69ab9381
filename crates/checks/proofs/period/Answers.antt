use Rattle.checks.specs.Causes.{period_cause}
use Rattle.checks.proofs.Lowest.{lower_same}
use Rattle.checks.proofs.period.Goals as goal

pub returns : goal.returns
unfolding period_cause
returns c = lower_same c.float.ensures c.cause_when.ensures c.lower.ensures
