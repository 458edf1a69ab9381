-- The contract of the call `cut_edge_at_points`: one answer and one content of every lent slice for each input (document 02, A.1). Definitions only.
use Rattle.std.specs.Prelude.{not, List, ℕ, ltb, Float}
use Rattle.compress.specs.Layout.{rows}
use Rattle.compress.specs.Records.{pick}
use Rattle.compress.specs.Said.{cause_or}
use Rattle.compress.specs.Shell.{Lent}
use Rattle.checks.specs.Causes.{when}
use Rattle.cutting.specs.Contract.{Outcome, turned_away}
use Rattle.edge_cuts.specs.declared.cuts.Cut.{Cut}
use Rattle.edge_cuts.specs.cuts.Cuts.{cut_at, rising}
use Rattle.edge_cuts.specs.Contract.{edge_cuts_cause, points_outcome}

-- "It refuses more than 64 cuts with 16 and parameters not strictly rising with 17": 16 goes first
unfoldable pub order_cause : ℕ → List Cut → ℕ
order_cause n cs = pick (ltb 64 n) 16 (when (not (rising cs)) 17)

-- "both after 01's numbers, save 6 over a result, which comes after every number added here or later": the call that has none of the causes 1 to 5
abbrev pub ordered_outcome : Lent → ℕ → ℕ → List Cut → Outcome
ordered_outcome l i n cs = cause_or (order_cause n cs) (turned_away l.slices) (points_outcome l i cs)

-- 1 to 5 over all that is lent, the n cuts too; then these
unfoldable pub several_outcome : Lent → ℕ → List Float → ℕ → Outcome
several_outcome l i cs n = cause_or (edge_cuts_cause l i cs n) (turned_away l.slices) (ordered_outcome l i n (rows (cut_at cs) 0 n))
