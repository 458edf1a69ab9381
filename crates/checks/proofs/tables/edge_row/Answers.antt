use Rattle.checks.specs.Causes.{edge_row_cause}
use Rattle.checks.proofs.tables.edge_row.Goals as goal

pub returns : goal.returns
unfolding edge_row_cause
returns c = rw (c.lower-2.ensures, c.lower.ensures, c.edge.ensures, c.at.ensures, c.kind-k.ensures, c.preparation-p.ensures)
