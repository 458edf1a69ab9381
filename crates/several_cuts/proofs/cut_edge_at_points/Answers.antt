use Rattle.std.proofs.Common.{sym, ◌∙◌}
use Rattle.std.proofs.lemmas.Result.{err_from_is_err_and}
use Rattle.cutting.specs.Lent.{lent}
use Rattle.edge_cuts.proofs.Outcome.{call_checked}
use Rattle.several_cuts.proofs.Outcome.{order_few, call_cause, call_order, call_done}
use Rattle.several_cuts.proofs.cut_edge_at_points.Goals as goal

pub returns-in_err-edge_cuts_cause-clause-outcome : goal.returns-in_err-edge_cuts_cause-clause-outcome
returns-in_err-edge_cuts_cause-clause-outcome c =
    let a = c.args in
    let p = err_from_is_err_and c.from_residual.result c.from_residual.ensures.1 in
    rw (p.1, p.2) (call_cause (lent a.vertices.now a.edges.now a.wires.now) _ _ _ _ c.in_err-edge_cuts_cause.ensures)

pub order_cause-requires : goal.order_cause-requires
order_cause-requires c =
    let a = c.args in
    (call_checked (lent a.vertices.now a.edges.now a.wires.now) _ _ _ (sym c.in_ok-edge_cuts_cause.ensures)).2

pub returns-in_err-order_cause-clause-outcome : goal.returns-in_err-order_cause-clause-outcome
returns-in_err-order_cause-clause-outcome c =
    let a = c.args in
    let p = err_from_is_err_and c.from_residual-in_err-order_cause.result c.from_residual-in_err-order_cause.ensures.1 in
    rw (p.1, p.2) (call_order (lent a.vertices.now a.edges.now a.wires.now) _ _ _ (sym c.in_ok-edge_cuts_cause.ensures) _ c.in_err-order_cause.ensures)

pub cut_checked-requires-clause-few : goal.cut_checked-requires-clause-few
cut_checked-requires-clause-few c = order_few _ _ (sym c.in_ok-order_cause.ensures)

pub returns-clause-outcome : goal.returns-clause-outcome
returns-clause-outcome c =
    let a = c.args in
    c.cut_checked.ensures.outcome
    ∙ call_done (lent a.vertices.now a.edges.now a.wires.now) _ _ _ (sym c.in_ok-edge_cuts_cause.ensures) (sym c.in_ok-order_cause.ensures)
