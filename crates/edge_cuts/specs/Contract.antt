-- What the calls that cut one edge share: their causes 1 to 5, and their outcome where there is none. Definitions only.
use Rattle.std.specs.Prelude.{List, ℕ, Float}
use Rattle.compress.specs.declared.Curve.{Curve}
use Rattle.compress.specs.Records.{first_of, last_of}
use Rattle.compress.specs.Rows.{edge_at}
use Rattle.compress.specs.Shell.{Lent, load}
use Rattle.checks.specs.Causes.{lower_of, edge_number_cause}
use Rattle.cutting.specs.Contract.{Outcome, input_cause, result_of}
use Rattle.edge_cuts.specs.declared.cuts.Cut.{Cut}
use Rattle.edge_cuts.specs.cuts.Cuts.{cuts_cause}
use Rattle.edge_cuts.specs.Cut.{cut_at_points}

-- the curve of edge i
abbrev pub curve_at : Lent → ℕ → Curve
curve_at l i = (edge_at l.slices.en l.slices.ef i).curve

-- 1 to 5, over all that was lent: the shell, the edge number i, and n cuts. (Where there is no edge i, 3 is below all that its curve could earn.)
unfoldable pub edge_cuts_cause : Lent → ℕ → List Float → ℕ → ℕ
edge_cuts_cause l i cs n =
    lower_of (input_cause l) (lower_of (edge_number_cause l.edges i) (cuts_cause (first_of (curve_at l i)) (last_of (curve_at l i)) cs n))

-- edge i cut at the cuts; 6 where the result has no room
unfoldable pub points_outcome : Lent → ℕ → List Cut → Outcome
points_outcome l i cs = result_of l.slices (cut_at_points (load l) i (edge_at l.slices.en l.slices.ef i) cs)
