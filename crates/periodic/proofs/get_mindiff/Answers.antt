use Rattle.compress.proofs.Refused.{exit_is, said_refused, said_checked}
use Rattle.periodic.specs.Unwrap.{get_mindiff}
use Rattle.periodic.proofs.get_mindiff.Goals as goal

pub returns-in_err-unwrap_cause : goal.returns-in_err-unwrap_cause
unfolding get_mindiff
returns-in_err-unwrap_cause c = rw (exit_is _ _ c.from_residual.ensures.1) (said_refused _ _ _ c.in_err-unwrap_cause.ensures)

pub returns : goal.returns
unfolding get_mindiff
returns c = rw c.unwrap.ensures (said_checked _ _ c.in_ok-unwrap_cause.ensures)
