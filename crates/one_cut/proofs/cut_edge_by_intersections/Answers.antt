use Rattle.std.proofs.Common.{sym, ◌∙◌}
use Rattle.std.proofs.lemmas.Result.{err_from_is_err_and}
use Rattle.cutting.specs.Lent.{lent}
use Rattle.one_cut.proofs.Outcome.{call_cause, call_several, call_done}
use Rattle.one_cut.proofs.cut_edge_by_intersections.Goals as goal

pub returns-in_err-edge_cuts_cause-clause-outcome : goal.returns-in_err-edge_cuts_cause-clause-outcome
returns-in_err-edge_cuts_cause-clause-outcome c =
    let a = c.args in
    let p = err_from_is_err_and c.from_residual.result c.from_residual.ensures.1 in
    rw (p.1, p.2) (call_cause (lent a.vertices.now a.edges.now a.wires.now) _ _ _ _ c.in_err-edge_cuts_cause.ensures)

pub returns-then-several-clause-outcome : goal.returns-then-several-clause-outcome
returns-then-several-clause-outcome c =
    let a = c.args in
    call_several (lent a.vertices.now a.edges.now a.wires.now) _ _ _ (sym c.in_ok-edge_cuts_cause.ensures) c.if-several.true

pub returns-clause-outcome : goal.returns-clause-outcome
returns-clause-outcome c =
    let a = c.args in
    c.cut_checked.ensures.outcome ∙ call_done (lent a.vertices.now a.edges.now a.wires.now) _ _ _ (sym c.in_ok-edge_cuts_cause.ensures) c.if-several.false
