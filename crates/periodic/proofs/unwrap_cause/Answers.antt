use Rattle.periodic.specs.Unwrap.{unwrap_cause}
use Rattle.periodic.proofs.unwrap_cause.Goals as goal

pub returns : goal.returns
unfolding unwrap_cause
returns c = rw (c.lower-2.ensures, c.lower.ensures, c.period_cause.ensures, c.float-2.ensures, c.float.ensures)
