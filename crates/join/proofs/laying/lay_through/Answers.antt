use Rattle.join.proofs.laying.Laying.{second_asks}
use Rattle.join.proofs.laying.lay_through.Goals as goal

pub lay_second-requires-clause-readable : goal.lay_second-requires-clause-readable
lay_second-requires-clause-readable c =
    let a = c.args in
    let l = c.requires.layable in
    (second_asks a.joint.now.edges.numbers.now a.joint.now.edges.floats.now a.first.now.wire.now a.wire.now a.second.now.wire.now _ a.first.now.by a.joint.now.v0 a.first.now.turn
    c.lay_first.ensures l.few l.first_rows l.wire_rows).1
