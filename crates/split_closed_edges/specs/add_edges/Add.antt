-- Document 001's `add_edges`, on values. Definitions only.
-- In each, n is the next free vertex number and m the next free edge number, and `at` tells the parameter at which a curve is cut.
use Rattle.std.specs.Prelude.{Bool, true, false, Option, Some, None, List, [], ◌∷◌, ◌++◌, ℕ, ◌+◌, Float}
use Rattle.compress.specs.declared.Curve.{Curve}
use Rattle.compress.specs.declared.Edge.{Edge}
use Rattle.compress.specs.declared.Vertex.{Vertex}
use Rattle.compress.specs.Records.{closed, pick}
use Rattle.cutting.specs.cut_edge.Cut.{halves_of, pending_of}

-- "The new vertex is the next free number n."
abbrev pub next : Bool → ℕ → ℕ
next true n = n + 1
next false n = n

-- "Edge (a, a) becomes (a, n)": an edge, by whether it is closed
abbrev pub kept_edge : (Curve → Float) → Bool → ℕ → Edge → Edge
kept_edge at true n e = (halves_of e (at e.curve) n).old
kept_edge at false n e = e

-- "(n, a) is appended."
abbrev pub new_edge : (Curve → Float) → Bool → ℕ → Edge → List Edge
new_edge at true n e = (halves_of e (at e.curve) n).new ∷ []
new_edge at false n e = []

abbrev pub new_vertex : (Curve → Float) → Bool → Edge → List Vertex
new_vertex at true e = pending_of at e ∷ []
new_vertex at false e = []

-- "Edges are taken in rising number; appended ones are not looked at again."
unfoldable pub kept_edges : (Curve → Float) → ℕ → List Edge → List Edge
kept_edges at n [] = []
kept_edges at n (e ∷ es) = kept_edge at (closed e) n e ∷ kept_edges at (next (closed e) n) es

unfoldable pub new_edges : (Curve → Float) → ℕ → List Edge → List Edge
new_edges at n [] = []
new_edges at n (e ∷ es) = new_edge at (closed e) n e ++ new_edges at (next (closed e) n) es

unfoldable pub new_vertices : (Curve → Float) → List Edge → List Vertex
new_vertices at [] = []
new_vertices at (e ∷ es) = new_vertex at (closed e) e ++ new_vertices at es

-- `added`: for each edge number that of the edge cut off it, and nothing where it was not cut
unfoldable pub added_to : ℕ → List Edge → List (Option ℕ)
added_to m [] = []
added_to m (e ∷ es) = pick (closed e) (Some m) None ∷ added_to (next (closed e) m) es
