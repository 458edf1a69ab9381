use mathlib.Core.Path.{◌∙◌}
use borrow.Author.Rules.{rules}
use Rattle.compress.proofs.Refused.{exit_is, said_refused, said_checked}
use Rattle.cutting.specs.parameter.Eighths.{eighths_cause, cut_parameter_said}
use Rattle.cutting.proofs.Within.{range_within}
use Rattle.cutting.proofs.parameter.cut_parameter.Goals as goal

pub returns-in_err-range-clause-said : goal.returns-in_err-range-clause-said
unfolding cut_parameter_said
returns-in_err-range-clause-said c = rw (exit_is _ _ c.from_residual.ensures.1) (said_refused _ _ _ c.in_err-range.ensures)

pub returns-in_err-eighths_cause-clause-said : goal.returns-in_err-eighths_cause-clause-said
unfolding cut_parameter_said
returns-in_err-eighths_cause-clause-said c =
    rw (exit_is _ _ c.from_residual-in_err-eighths_cause.ensures.1)
    (said_refused _ (eighths_cause c.args.k) _ c.in_err-eighths_cause.ensures ∙ said_checked _ _ c.in_ok-range.ensures)

pub returns-clause-said : goal.returns-clause-said
unfolding cut_parameter_said
returns-clause-said c =
    rw c.cut_parameter.ensures.exact (said_checked (eighths_cause c.args.k) _ c.in_ok-eighths_cause.ensures ∙ said_checked _ _ c.in_ok-range.ensures)

pub returns-clause-within : goal.returns-clause-within
returns-clause-within c =
    range_within c.args.k _ _ c.cut_parameter.result (search rules) (search rules) c.cut_parameter.ensures (rw c.in_ok-range.ensures)
