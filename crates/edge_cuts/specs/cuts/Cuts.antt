-- The cuts of one edge, in rows of floats, and their causes. Definitions only.
use Rattle.std.specs.Prelude.{Bool, true, ◌&&◌, List, [], ◌∷◌, ℕ, ◌+◌, ◌*◌, ltb, Float, length, get_or}
use Rattle.std.specs.Float.{nan}
use Rattle.std.specs.Float.Ieee.{lt}
use Rattle.compress.specs.Layout.{rows}
use Rattle.compress.specs.Records.{pick}
use Rattle.checks.specs.Causes.{lower_of, lowest_of, parameter_cause, point_cause}
use Rattle.edge_cuts.specs.declared.cuts.Cut.{Cut}
use Rattle.edge_cuts.specs.declared.cuts.EdgeCuts.{EdgeCuts}

-- a cut is its parameter and its point: the cells of a row
abbrev pub floats_per_cut : ℕ
floats_per_cut = 4

abbrev pub cut_of : Float → Float → Float → Float → Cut
cut_of t x y z = record { t = t; point = record { x = x; y = y; z = z } }

abbrev pub cut_at : List Float → ℕ → Cut
cut_at cs i =
    cut_of (get_or cs (i * floats_per_cut) nan) (get_or cs (i * floats_per_cut + 1) nan) (get_or cs (i * floats_per_cut + 2) nan)
    (get_or cs (i * floats_per_cut + 3) nan)

-- 5: "cut .. parameter outside its curve's t0 to t1"; 4 for each of its numbers
unfoldable pub cut_cause : Float → Float → Cut → ℕ
cut_cause t0 t1 c = lower_of (parameter_cause t0 t1 c.t) (point_cause c.point.x c.point.y c.point.z)

-- n cuts: "a count .. is above what was lent", and every cut, used or not
unfoldable pub cuts_cause : Float → Float → List Float → ℕ → ℕ
cuts_cause t0 t1 cs n = pick (ltb (length cs) (n * floats_per_cut)) 1 (lowest_of (λ i. cut_cause t0 t1 (cut_at cs i)) n)

-- the cuts as they are lent
abbrev pub cuts_in : EdgeCuts → List Cut
cuts_in c = rows (cut_at c.floats.now) 0 c.count

-- "in strictly rising parameter": each is below the next one
unfoldable pub rising : List Cut → Bool
rising [] = true
rising (c ∷ []) = true
rising (c ∷ d ∷ cs) = lt c.t d.t && rising (d ∷ cs)
