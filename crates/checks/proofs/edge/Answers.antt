use Rattle.checks.specs.Causes.{edge_cause}
use Rattle.checks.proofs.edge.Goals as goal

pub returns : goal.returns
unfolding edge_cause
returns c = rw (c.lower-2.ensures, c.lower.ensures, c.curve.ensures, c.vertex_number-back.ensures, c.vertex_number-front.ensures)
