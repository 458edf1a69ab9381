use Rattle.join.specs.Contract.{join_cause}
use Rattle.join.proofs.join_cause.Goals as goal

pub returns : goal.returns
unfolding join_cause
returns c =
    rw
    (c.lower-4.ensures, c.lower-3.ensures, c.lower-2.ensures, c.lower.ensures, c.lower-of_wires.ensures, c.empty_cause-empty.ensures, c.join_wires_cause-w.ensures, c.vertex_number-b.ensures, c.vertex_number-a.ensures, c.edges-e.ensures, c.count-v.ensures)
