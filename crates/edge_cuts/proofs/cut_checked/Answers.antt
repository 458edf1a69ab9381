use Rattle.std.proofs.Common.{arith}
use Rattle.std.proofs.lemmas.Result.{err_from_is_err_and}
use Rattle.compress.proofs.Layouts.{length_rows}
use Rattle.cutting.proofs.Outcome.{accepted, no_cause}
use Rattle.cutting.proofs.Room.{views_asked, views_room}
use Rattle.edge_cuts.specs.cuts.Cuts.{cut_at, cuts_in}
use Rattle.edge_cuts.proofs.None.{none_left}
use Rattle.edge_cuts.proofs.Outcome.{call_checked, places, outcome_full, outcome_done}
use Rattle.edge_cuts.proofs.cut_checked.Goals as goal

pub total_uses-requires : goal.total_uses-requires
total_uses-requires c =
    let v = c.view.ensures in
    let W = (accepted _ _ _ _ _ _ _ _ _ (call_checked _ _ _ _ c.requires.checked).0).wires in
    rw (v.count_value, v.lengths_value) (W.below, W.lengths)

pub returns-then-count-eq0-clause-outcome : goal.returns-then-count-eq0-clause-outcome
returns-then-count-eq0-clause-outcome c =
    let h = call_checked _ _ _ _ c.requires.checked in
    none_left _ _ _ _ _ _ _ _ _ c.args.cuts.now.edge _ _ c.args.cuts.now.floats.now h.0 h.1 c.if-count-eq0.true
    (rw (c.view.ensures.count_value, c.view.ensures.lengths_value) at c.total_uses.ensures)

pub cut_room-room-requires-clause-vertices_bound : goal.cut_room-room-requires-clause-vertices_bound
cut_room-room-requires-clause-vertices_bound c =
    let h = call_checked _ _ _ _ c.requires.checked in
    let A = accepted _ _ _ _ _ _ _ _ _ h.0 in
    (views_asked c.view-2.ensures c.view-3.ensures A.vertices A.edges).vertices_bound

pub cut_room-room-requires-clause-edges_bound : goal.cut_room-room-requires-clause-edges_bound
cut_room-room-requires-clause-edges_bound c =
    let h = call_checked _ _ _ _ c.requires.checked in
    let A = accepted _ _ _ _ _ _ _ _ _ h.0 in
    (views_asked c.view-2.ensures c.view-3.ensures A.vertices A.edges).edges_bound

pub overflow_cast-pieces : goal.overflow_cast-pieces
overflow_cast-pieces c = omega (arith, (accepted _ _ _ _ _ _ _ _ _ (call_checked _ _ _ _ c.requires.checked).0).edges.below)

pub mend_wires-requires-clause-few : goal.mend_wires-requires-clause-few
mend_wires-requires-clause-few c = ((accepted _ _ _ _ _ _ _ _ _ (call_checked _ _ _ _ c.requires.checked).0).edges.below, c.requires.few)

pub mend_wires-requires-clause-wires_value : goal.mend_wires-requires-clause-wires_value
mend_wires-requires-clause-wires_value c = (no_cause _ _ _ _ _ _ _ _ _ (call_checked _ _ _ _ c.requires.checked).0).2

pub returns-in_err-uses-clause-outcome : goal.returns-in_err-uses-clause-outcome
returns-in_err-uses-clause-outcome c =
    let p = err_from_is_err_and c.from_residual.result c.from_residual.ensures.1 in
    let n = length_rows (cut_at c.args.cuts.now.floats.now) 0 c.args.cuts.now.count in
    rw (p.1, p.2) (outcome_full _ _ _ _ _ _ _ _ _ c.args.cuts.now.edge (cuts_in c.args.cuts.now) (call_checked _ _ _ _ c.requires.checked).0 _ n _
    (views_room c.view-2.ensures c.view-3.ensures _ c.cut_room-room.ensures) _ _ _ c.mend_wires.ensures.mended _ c.in_err-uses.was)

pub put_points-requires-clause-vertex_rows : goal.put_points-requires-clause-vertex_rows
put_points-requires-clause-vertex_rows c =
    let n = length_rows (cut_at c.args.cuts.now.floats.now) 0 c.args.cuts.now.count in
    let p = places _ _ _ _ _ _ _ _ _ c.args.cuts.now.edge (cuts_in c.args.cuts.now) (call_checked _ _ _ _ c.requires.checked).0 _ n _
    (views_room c.view-2.ensures c.view-3.ensures _ c.cut_room-room.ensures) _ _ _ c.mend_wires.ensures.mended _ c.in_ok-uses.was in
    (p.0.1, p.0.2)

pub put_points-requires-clause-cut_rows : goal.put_points-requires-clause-cut_rows
put_points-requires-clause-cut_rows c = (call_checked _ _ _ _ c.requires.checked).2

pub put_pieces-requires-clause-edge_rows : goal.put_pieces-requires-clause-edge_rows
put_pieces-requires-clause-edge_rows c =
    let n = length_rows (cut_at c.args.cuts.now.floats.now) 0 c.args.cuts.now.count in
    let p = places _ _ _ _ _ _ _ _ _ c.args.cuts.now.edge (cuts_in c.args.cuts.now) (call_checked _ _ _ _ c.requires.checked).0 _ n _
    (views_room c.view-2.ensures c.view-3.ensures _ c.cut_room-room.ensures) _ _ _ c.mend_wires.ensures.mended _ c.in_ok-uses.was in
    (p.1.1, p.1.2)

pub put_pieces-requires-clause-cut_rows : goal.put_pieces-requires-clause-cut_rows
put_pieces-requires-clause-cut_rows c = (call_checked _ _ _ _ c.requires.checked).2

pub put_pieces-requires-clause-edge_row : goal.put_pieces-requires-clause-edge_row
put_pieces-requires-clause-edge_row c =
    let h = call_checked _ _ _ _ c.requires.checked in
    (h.1, rw c.put_points.ensures.same.count (accepted _ _ _ _ _ _ _ _ _ h.0).vertices.below, c.requires.few)

pub overflow_add-result : goal.overflow_add-result
overflow_add-result c =
    let A = accepted _ _ _ _ _ _ _ _ _ (call_checked _ _ _ _ c.requires.checked).0 in
    omega (arith, c.put_points.ensures.same.count, A.vertices.below, c.requires.few)

pub overflow_add-result-2 : goal.overflow_add-result-2
overflow_add-result-2 c =
    let A = accepted _ _ _ _ _ _ _ _ _ (call_checked _ _ _ _ c.requires.checked).0 in
    omega (arith, c.put_pieces.ensures.same.count, A.edges.below, c.requires.few)

pub returns-clause-outcome : goal.returns-clause-outcome
returns-clause-outcome c =
    let n = length_rows (cut_at c.args.cuts.now.floats.now) 0 c.args.cuts.now.count in
    let h = call_checked _ _ _ _ c.requires.checked in
    let v = c.put_points.ensures in
    let e = rw v.same.count at c.put_pieces.ensures in
    rw (v.same.count, e.same.count)
    (outcome_done _ _ _ _ _ _ _ _ _ c.args.cuts.now.edge (cuts_in c.args.cuts.now) h.0 _ n _
    (views_room c.view-2.ensures c.view-3.ensures _ c.cut_room-room.ensures) _ _ _ c.mend_wires.ensures.mended _ _ _ _ _ c.in_ok-uses.was h.1
    v.numbers_after v.floats_after e.numbers_after e.floats_after)
