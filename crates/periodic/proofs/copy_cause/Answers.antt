use Rattle.periodic.specs.Copies.{copy_cause}
use Rattle.periodic.proofs.copy_cause.Goals as goal

pub returns : goal.returns
unfolding copy_cause
returns c = rw (c.lower-3.ensures, c.lower-2.ensures, c.lower.ensures, c.period_cause-2.ensures, c.period_cause.ensures, c.uv-2.ensures, c.uv.ensures)
