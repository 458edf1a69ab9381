use Rattle.compress.specs.Rows.{edge_of}
use Rattle.compress.proofs.edge_at.Goals as goal

pub returns : goal.returns
unfolding edge_of
returns c = rw (c.curve_at-curve.ensures, c.preparation_of.ensures)
