use Rattle.checks.specs.Causes.{vertex_row_cause}
use Rattle.checks.proofs.tables.vertex_row.Goals as goal

pub returns : goal.returns
unfolding vertex_row_cause
returns c = rw (c.lower-2.ensures, c.lower.ensures, c.vertex.ensures, c.at.ensures, c.curve_kind-c.ensures, c.kind-k.ensures)
