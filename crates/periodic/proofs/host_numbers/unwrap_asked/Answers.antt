use Rattle.compress.proofs.Refused.{exit_is}
use Rattle.periodic.specs.host_numbers.Numbers.{host_mindiff}
use Rattle.periodic.proofs.host_numbers.unwrap_asked.Goals as goal

pub returns-in_err-known : goal.returns-in_err-known
unfolding host_mindiff
returns-in_err-known c = rw (exit_is _ _ c.from_residual.ensures.1, ← c.in_err-known.ensures)

pub returns : goal.returns
unfolding host_mindiff
returns c = rw (← c.in_ok-known.ensures) c.get_mindiff.ensures
