use Rattle.cutting.specs.Contract.{input_cause}
use Rattle.cutting.proofs.input_cause.Goals as goal

pub returns : goal.returns
unfolding input_cause
returns c = rw (c.lower-2.ensures, c.lower.ensures, c.wires-w.ensures, c.edges-e.ensures, c.vertices-v.ensures)
