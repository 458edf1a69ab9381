use Rattle.compress.proofs.Refused.{exit_is}
use Rattle.wire_kinds.proofs.Sorting.{sort_refused}
use Rattle.wire_kinds.proofs.sort_wires.Goals as goal

pub returns-in_err-cause : goal.returns-in_err-cause
returns-in_err-cause c = rw (exit_is _ _ c.from_residual.ensures.1) (sort_refused _ _ _ _ _ c.in_err-cause.ensures)
