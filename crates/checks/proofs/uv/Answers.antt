use Rattle.checks.specs.Causes.{uv_cause}
use Rattle.checks.proofs.uv.Goals as goal

pub returns : goal.returns
unfolding uv_cause
returns c = rw (c.lower.ensures, c.float-2.ensures, c.float.ensures)
