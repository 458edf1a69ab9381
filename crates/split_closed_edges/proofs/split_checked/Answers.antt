use Rattle.std.proofs.lemmas.Result.{err_from_is_err_and}
use Rattle.std.proofs.Common.{arith}
use Rattle.cutting.proofs.Outcome.{accepted}
use Rattle.cutting.proofs.Room.{views_asked, views_room}
use Rattle.split_closed_edges.proofs.Outcome.{closable, cuts_are, cuts_few, addable, outcome_full, outcome_done}
use Rattle.split_closed_edges.proofs.split_checked.Goals as goal

pub cut_room-room-requires : goal.cut_room-room-requires
cut_room-room-requires c =
    let A = accepted _ _ _ _ _ _ _ _ _ c.requires.0 in
    views_asked c.view.ensures c.view-2.ensures A.vertices A.edges

pub mend_closed-requires : goal.mend_closed-requires
mend_closed-requires c =
    let t = c.view-3.ensures in
    let h = closable _ _ _ _ _ _ _ _ _ c.args.k c.requires.0 in
    record { table = rw (t.count_value, t.numbers_value) (h.0, h.1); wires_value = rw t.count_value h.2 }

pub returns-in_err-m-clause-outcome : goal.returns-in_err-m-clause-outcome
returns-in_err-m-clause-outcome c =
    let p = err_from_is_err_and c.from_residual.result c.from_residual.ensures.1 in
    rw (p.1, p.2)
    (outcome_full _ _ _ _ _ _ _ _ _ c.args.k c.requires.0 c.requires.1 _ (views_room c.view.ensures c.view-2.ensures _ c.cut_room-room.ensures) _ _ _ (rw (c.view-3.ensures.numbers_value, c.view-3.ensures.count_value) at c.mend_closed.ensures.mended) _ c.in_err-m.was)

pub add_edges-requires : goal.add_edges-requires
add_edges-requires c = addable _ _ _ _ _ _ _ _ _ c.args.k c.requires.0 c.requires.1 _ (views_room c.view.ensures c.view-2.ensures _ c.cut_room-room.ensures) _ _ _ (rw (c.view-3.ensures.numbers_value, c.view-3.ensures.count_value) at c.mend_closed.ensures.mended) _ c.in_ok-m.was

pub overflow_add-result : goal.overflow_add-result
overflow_add-result c =
    omega (
      arith,
      cuts_few _ _ _ _ _ _ _ _ _ c.args.k c.requires.0 c.requires.1 _ (views_room c.view.ensures c.view-2.ensures _ c.cut_room-room.ensures) _ _ _ (rw (c.view-3.ensures.numbers_value, c.view-3.ensures.count_value) at c.mend_closed.ensures.mended) _ c.in_ok-m.was,
      (accepted _ _ _ _ _ _ _ _ _ c.requires.0).vertices.below,
    )

pub overflow_add-result-2 : goal.overflow_add-result-2
overflow_add-result-2 c =
    omega (
      arith,
      cuts_few _ _ _ _ _ _ _ _ _ c.args.k c.requires.0 c.requires.1 _ (views_room c.view.ensures c.view-2.ensures _ c.cut_room-room.ensures) _ _ _ (rw (c.view-3.ensures.numbers_value, c.view-3.ensures.count_value) at c.mend_closed.ensures.mended) _ c.in_ok-m.was,
      (accepted _ _ _ _ _ _ _ _ _ c.requires.0).edges.below,
    )

pub returns-clause-outcome : goal.returns-clause-outcome
returns-clause-outcome c =
    rw (c.add_edges.ensures.same_vertices.count, c.add_edges.ensures.same_edges.count)
    (outcome_done _ _ _ _ _ _ _ _ _ c.args.k c.requires.0 c.requires.1 _ (views_room c.view.ensures c.view-2.ensures _ c.cut_room-room.ensures) _ _ _ (rw (c.view-3.ensures.numbers_value, c.view-3.ensures.count_value) at c.mend_closed.ensures.mended) _ c.in_ok-m.was _ _ _ _ c.add_edges.ensures.added)

pub returns-in_err-m-clause-parameters : goal.returns-in_err-m-clause-parameters
returns-in_err-m-clause-parameters c = let p = err_from_is_err_and c.from_residual.result c.from_residual.ensures.1 in rw p.1 tt

pub returns-clause-parameters : goal.returns-clause-parameters
returns-clause-parameters c =
    rw (c.add_edges.ensures.same_vertices.count, cuts_are _ _ _ _ _ _ _ _ _ c.args.k c.requires.0 c.requires.1 _ (views_room c.view.ensures c.view-2.ensures _ c.cut_room-room.ensures) _ _ _ (rw (c.view-3.ensures.numbers_value, c.view-3.ensures.count_value) at c.mend_closed.ensures.mended) _ c.in_ok-m.was)
    c.add_edges.ensures.added.vertices
