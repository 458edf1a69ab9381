use Rattle.std.proofs.Common.{arith}
use mathlib.Core.Bool.{false≢true}
use mathlib.Core.Path.{sym}
use Rattle.split_closed_edges.proofs.add_edges.Edges.{closed_yes, closed_no}
use Rattle.split_closed_edges.proofs.add_edges.add_edge.Goals as goal

pub returns-then-e-clause-value : goal.returns-then-e-clause-value
returns-then-e-clause-value c =
    let v = c.view.ensures in
    sym (closed_no _ _ (rw (v.numbers_value, v.floats_value) at c.at-e.ensures) c.if-e.true)

pub returns-then-e-clause-accepted : goal.returns-then-e-clause-accepted
returns-then-e-clause-accepted c p = absurd (false≢true p)

pub overflow_cast-n : goal.overflow_cast-n
overflow_cast-n c =
    let v = c.view.ensures in
    omega (arith, (c.requires.place_for (closed_yes _ _ (rw (v.numbers_value, v.floats_value) at c.at-e.ensures) c.if-e.false)).below)

pub put-requires : goal.put-requires
put-requires c =
    let v = c.view.ensures in
    let p = c.requires.place_for (closed_yes _ _ (rw (v.numbers_value, v.floats_value) at c.at-e.ensures) c.if-e.false) in
    (p.vertex_numbers, p.vertex_floats)

pub put-requires-3 : goal.put-requires-3
put-requires-3 c =
    let v = c.view.ensures in
    let p = c.requires.place_for (closed_yes _ _ (rw (v.numbers_value, v.floats_value) at c.at-e.ensures) c.if-e.false) in
    (omega (arith, p.edge_numbers, c.put-2.ensures.same.numbers_len), omega (arith, p.edge_floats, c.put-2.ensures.same.floats_len))

pub returns-clause-value : goal.returns-clause-value
returns-clause-value c =
    let v = c.view.ensures in
    sym (closed_yes _ _ (rw (v.numbers_value, v.floats_value) at c.at-e.ensures) c.if-e.false)

pub returns-clause-accepted : goal.returns-clause-accepted
returns-clause-accepted c p q =
    let v = c.view.ensures in
    let e = rw (v.numbers_value, v.floats_value) at c.at-e.ensures in
    rw (← e, ← c.pending.ensures.exact) (c.pending.ensures.accepted (rw e q))
