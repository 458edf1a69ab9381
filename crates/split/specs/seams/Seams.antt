-- The vertices on the divisor and the seams between them. Definitions only.
use Rattle.std.specs.Prelude.{Bool, false, ◌||◌, List, [], ◌∷◌, ℕ, ◌+◌, ◌*◌, eqb, Float, get_or}
use Rattle.std.specs.Float.{nan}
use Rattle.compress.specs.Constants.{zero64, one64}
use Rattle.compress.specs.declared.Curve.TheVariants.{Seam}
use Rattle.compress.specs.declared.Preparation.TheVariants.{Square}
use Rattle.compress.specs.declared.Edge.{Edge}
use Rattle.split.specs.declared.seams.Stop.{Stop}

-- how many floats a vertex on the divisor has, its uv point, and how many a pair of them
abbrev pub floats_per_stop : ℕ
floats_per_stop = 2

abbrev pub floats_per_pair : ℕ
floats_per_pair = 4

abbrev pub stop_at : List ℕ → List Float → ℕ → Stop
stop_at ds fs i =
    record { vertex = get_or ds i 0; point = record { u = get_or fs (i * floats_per_stop) nan; v = get_or fs (i * floats_per_stop + 1) nan } }

-- "a seam from the first's uv point to the second's on that surface"; its t0, t1 "begin as 0 and 1". Document 02, A.5: "A new seam edge is square".
unfoldable pub seam_of : ℕ → Stop → Stop → Edge
seam_of surface a b =
    record { front = a.vertex; back = b.vertex; curve = Seam surface a.point b.point zero64 one64; preparation = Square }

-- "Vertices pair off (first with second, third with fourth; an odd last one makes no edge); each pair is a new edge, appended in that order"
unfoldable pub seams_of : ℕ → List Stop → List Edge
seams_of surface [] = []
seams_of surface (a ∷ []) = []
seams_of surface (a ∷ b ∷ stops) = seam_of surface a b ∷ seams_of surface stops

-- "A vertex twice on the divisor"
unfoldable pub stands : ℕ → List ℕ → Bool
stands v [] = false
stands v (w ∷ vs) = eqb w v || stands v vs

-- a vertex stands that stood before: the vertices `seen` stood before the list
unfoldable pub repeats_after : List ℕ → List ℕ → Bool
repeats_after seen [] = false
repeats_after seen (v ∷ vs) = stands v seen || repeats_after (v ∷ seen) vs
