-- The contract of the call `split_closed_edges`: one answer and one content of every lent slice for each input. Definitions only.
use Rattle.std.specs.Prelude.{ℕ}
use Rattle.compress.specs.Said.{cause_or}
use Rattle.compress.specs.Shell.{Lent, load}
use Rattle.cutting.specs.Contract.{Outcome, input_cause, turned_away, result_of}
use Rattle.cutting.specs.parameter.Eighths.{eighths_cause, parameter_of}
use Rattle.split_closed_edges.specs.Pass.{split_closed_edges}

-- the pass over a shell that has none of the causes 1 to 5: 18, and 6 last
abbrev pub checked_outcome : ℕ → Lent → Outcome
checked_outcome k l = cause_or (eighths_cause k) (turned_away l.slices) (result_of l.slices (split_closed_edges (parameter_of k) (load l)))

unfoldable pub outcome_of : ℕ → Lent → Outcome
outcome_of k l = cause_or (input_cause l) (turned_away l.slices) (checked_outcome k l)
