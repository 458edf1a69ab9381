use Rattle.std.proofs.lemmas.Result.{err_from_is_err_and}
use mathlib.Core.Path.{sym}
use Rattle.split_closed_edges.proofs.Outcome.{outcome_cause, outcome_eighths}
use Rattle.split_closed_edges.proofs.split_closed_edges.Goals as goal

pub returns-in_err-input_cause-clause-outcome : goal.returns-in_err-input_cause-clause-outcome
returns-in_err-input_cause-clause-outcome c =
    let p = err_from_is_err_and c.from_residual.result c.from_residual.ensures.1 in
    rw (p.1, p.2) (outcome_cause _ _ _ _ _ _ _ _ _ _ _ (rw (c.view.ensures.numbers_value, c.view.ensures.floats_value, c.view.ensures.count_value, c.view-2.ensures.numbers_value, c.view-2.ensures.floats_value, c.view-2.ensures.count_value, c.view-3.ensures.uses_value, c.view-3.ensures.lengths_value, c.view-3.ensures.count_value) at c.in_err-input_cause.ensures))

pub split_checked-requires : goal.split_checked-requires
split_checked-requires c =
    (sym (rw (c.view.ensures.numbers_value, c.view.ensures.floats_value, c.view.ensures.count_value, c.view-2.ensures.numbers_value, c.view-2.ensures.floats_value, c.view-2.ensures.count_value, c.view-3.ensures.uses_value, c.view-3.ensures.lengths_value, c.view-3.ensures.count_value) at c.in_ok-input_cause.ensures), sym c.in_ok-eighths_cause.ensures)

pub returns-in_err-input_cause-clause-parameters : goal.returns-in_err-input_cause-clause-parameters
returns-in_err-input_cause-clause-parameters c = let p = err_from_is_err_and c.from_residual.result c.from_residual.ensures.1 in rw p.1 tt

pub returns-in_err-eighths_cause-clause-outcome : goal.returns-in_err-eighths_cause-clause-outcome
returns-in_err-eighths_cause-clause-outcome c =
    let p = err_from_is_err_and c.from_residual-in_err-eighths_cause.result c.from_residual-in_err-eighths_cause.ensures.1 in
    rw (p.1, p.2) (outcome_eighths _ _ _ _ _ _ _ _ _ c.args.k _ (sym (rw (c.view.ensures.numbers_value, c.view.ensures.floats_value, c.view.ensures.count_value, c.view-2.ensures.numbers_value, c.view-2.ensures.floats_value, c.view-2.ensures.count_value, c.view-3.ensures.uses_value, c.view-3.ensures.lengths_value, c.view-3.ensures.count_value) at c.in_ok-input_cause.ensures)) c.in_err-eighths_cause.ensures)

pub returns-in_err-eighths_cause-clause-parameters : goal.returns-in_err-eighths_cause-clause-parameters
returns-in_err-eighths_cause-clause-parameters c =
    let p = err_from_is_err_and c.from_residual-in_err-eighths_cause.result c.from_residual-in_err-eighths_cause.ensures.1 in rw p.1 tt
