-- The contract of the call `cut_edge_by_intersections`: one answer and one content of every lent slice for each input. Definitions only.
use Rattle.std.specs.Prelude.{List, [], ◌∷◌, ℕ, Float}
use Rattle.compress.specs.Layout.{rows}
use Rattle.compress.specs.Rows.{edge_at}
use Rattle.compress.specs.Said.{result, cause_or}
use Rattle.compress.specs.Shell.{Lent, load, counts_of}
use Rattle.cutting.specs.Contract.{Outcome, turned_away, result_of}
use Rattle.edge_cuts.specs.declared.cuts.Cut.{Cut}
use Rattle.edge_cuts.specs.cuts.Cuts.{cut_at}
use Rattle.edge_cuts.specs.Contract.{edge_cuts_cause}
use Rattle.one_cut.specs.Cut.{cut_once}

-- "One cut at t, with its given point", of edge i
unfoldable pub once_outcome : Lent → ℕ → Cut → Outcome
once_outcome l i c = result_of l.slices (cut_once (load l) i (edge_at l.slices.en l.slices.ef i) c)

-- "No cut: nothing changes. One cut at t, with its given point: .. For two or more .. the port refuses (14)"
abbrev pub cut_by : List Cut → Lent → ℕ → Outcome
cut_by [] l i = record { said = result (counts_of (load l)); slices = l.slices }
cut_by (c ∷ []) l i = once_outcome l i c
cut_by (c ∷ d ∷ cs) l i = turned_away l.slices 14

unfoldable pub cut_outcome : Lent → ℕ → List Float → ℕ → Outcome
cut_outcome l i cs n = cause_or (edge_cuts_cause l i cs n) (turned_away l.slices) (cut_by (rows (cut_at cs) 0 n) l i)
