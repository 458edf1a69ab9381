-- Nearest ends of two stretches. Edges and vertices are given by number. Definitions only.
use Rattle.std.specs.Prelude.{List, [], ◌∷◌, ℕ, Float}
use Rattle.floats.specs.Exact.{distance2_xyz}
use Rattle.compress.specs.declared.Edge.{Edge}
use Rattle.compress.specs.declared.Vertex.{Vertex}
use Rattle.compress.specs.Records.{front_at}
use Rattle.compress.specs.Said.{Said, result, none}
use Rattle.compress.specs.declared.Xyz.{Xyz}
use Rattle.correction.specs.declared.nearest.Away.{Away}
use Rattle.correction.specs.declared.nearest.Ends.{Ends}
use Rattle.compress.specs.Choice.{smallest}
use Rattle.compress.specs.Points.{point_of}

-- "Squares are added in the order x, y, z"
unfoldable pub point_gap : Xyz → Xyz → Float
point_gap p q = distance2_xyz p.x p.y p.z q.x q.y q.z

unfoldable pub gap_from : (ℕ → Vertex) → ℕ → ℕ → Float
gap_from vs p v = point_gap (point_of (vs p)) (point_of (vs v))

-- what the code holds of a vertex: its number, and its squared distance from a point
abbrev pub away_at : (ℕ → Vertex) → Xyz → ℕ → Away
away_at vs from v = record { vertex = v; gap = point_gap from (point_of (vs v)) }

abbrev pub gap_of : Away → Float
gap_of a = a.gap

-- the front of each use of a stretch
unfoldable pub fronts_of : (ℕ → Edge) → List ℕ → List ℕ
fronts_of es [] = []
fronts_of es (u ∷ us) = front_at es u ∷ fronts_of es us

-- the front nearest to vertex p in a stretch of use u and those that follow; "the first smallest wins"
unfoldable pub nearest_front : (ℕ → Edge) → (ℕ → Vertex) → ℕ → ℕ → List ℕ → ℕ
nearest_front es vs p u us = smallest (gap_from vs p) (front_at es u) (fronts_of es us)

-- "From v0, the nearest front of the second stretch; from there, the nearest front of the first. .. An empty stretch gives "none"."
abbrev pub ends_from : (ℕ → Edge) → (ℕ → Vertex) → ℕ → List ℕ → Said Ends
ends_from es vs v1 [] = none
ends_from es vs v1 (u ∷ us) = result (record { v0 = nearest_front es vs v1 u us; v1 = v1 })

unfoldable pub nearest_ends : (ℕ → Edge) → (ℕ → Vertex) → ℕ → List ℕ → List ℕ → Said Ends
nearest_ends es vs v0 first [] = none
nearest_ends es vs v0 first (u ∷ us) = ends_from es vs (nearest_front es vs v0 u us) first
