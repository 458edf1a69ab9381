use Rattle.cutting.specs.Lent.{lent}
use Rattle.edge_cuts.proofs.Outcome.{cause_found}
use Rattle.edge_cuts.proofs.edge_cuts_cause.Goals as goal

pub returns : goal.returns
returns c =
    let a = c.args in
    cause_found (lent a.vertices.now a.edges.now a.wires.now) a.cuts.now.edge a.cuts.now.floats.now a.cuts.now.count
    c.float_at-t0.ensures c.float_at-t1.ensures
    (rw (c.view.ensures.numbers_value, c.view.ensures.floats_value, c.view.ensures.count_value, c.view-2.ensures.numbers_value, c.view-2.ensures.floats_value, c.view-2.ensures.count_value, c.view-3.ensures.uses_value, c.view-3.ensures.lengths_value, c.view-3.ensures.count_value) at c.input_cause-shell.ensures) c.edge_number-number.ensures c.cause-c.ensures
    c.lower.ensures c.lower-2.ensures
