use Rattle.join.specs.Contract.{empty_cause}
use Rattle.join.proofs.empty_cause.Goals as goal

pub returns : goal.returns
unfolding empty_cause
returns c = rw (c.lower.ensures, c.cause_when-2.ensures, c.cause_when.ensures)
