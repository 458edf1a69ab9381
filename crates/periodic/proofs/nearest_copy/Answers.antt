use Rattle.compress.proofs.Refused.{exit_is, said_refused, said_checked}
use Rattle.periodic.specs.Copies.{nearest_copy_said}
use Rattle.periodic.proofs.nearest_copy.Goals as goal

pub returns-in_err-copy_cause : goal.returns-in_err-copy_cause
unfolding nearest_copy_said
returns-in_err-copy_cause c = rw (exit_is _ _ c.from_residual.ensures.1) (said_refused _ _ _ c.in_err-copy_cause.ensures)

pub returns : goal.returns
unfolding nearest_copy_said
returns c = rw c.copy_nearest.ensures (said_checked _ _ c.in_ok-copy_cause.ensures)
