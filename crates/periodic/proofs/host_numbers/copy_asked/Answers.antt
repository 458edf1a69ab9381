use Rattle.compress.proofs.Refused.{exit_is}
use Rattle.periodic.specs.host_numbers.Numbers.{host_copy_along, host_copy}
use Rattle.periodic.proofs.host_numbers.copy_asked.Goals as goal

pub returns-in_err-up : goal.returns-in_err-up
unfolding host_copy
returns-in_err-up c = rw (exit_is _ _ c.from_residual.ensures.1, ← c.in_err-up.ensures)

pub returns-in_err-vp : goal.returns-in_err-vp
unfolding host_copy host_copy_along
returns-in_err-vp c = rw (exit_is _ _ c.from_residual-in_err-vp.ensures.1, ← c.in_ok-up.ensures, ← c.in_err-vp.ensures)

pub returns : goal.returns
unfolding host_copy host_copy_along
returns c = rw (← c.in_ok-up.ensures, ← c.in_ok-vp.ensures) c.nearest_copy.ensures
