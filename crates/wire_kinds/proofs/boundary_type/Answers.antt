use Rattle.compress.proofs.Refused.{exit_is, said_refused, said_checked}
use Rattle.wire_kinds.specs.Kinds.{boundary_type_said}
use Rattle.wire_kinds.proofs.boundary_type.Goals as goal

pub returns-in_err-kind_cause : goal.returns-in_err-kind_cause
unfolding boundary_type_said
returns-in_err-kind_cause c = rw (exit_is _ _ c.from_residual.ensures.1) (said_refused _ _ _ c.in_err-kind_cause.ensures)

pub returns : goal.returns
unfolding boundary_type_said
returns c = rw c.kind_of.ensures (said_checked _ _ c.in_ok-kind_cause.ensures)
