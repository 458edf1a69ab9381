-- Several cuts of one edge of a shell (document 02, A.1). Definitions only.
use Rattle.std.specs.Prelude.{List, [], ◌∷◌, ◌++◌, ℕ, ◌+◌, length, set, map}
use Rattle.compress.specs.declared.Edge.{Edge}
use Rattle.compress.specs.declared.Vertex.{Vertex}
use Rattle.compress.specs.Points.{given}
use Rattle.compress.specs.Shell.{Shell}
use Rattle.cutting.specs.cut_edge.Cut.{halves_of}
use Rattle.pieces.specs.Pieces.{mended, parts_of}
use Rattle.edge_cuts.specs.declared.cuts.Cut.{Cut}

-- "Edge (a, b) becomes a chain of pieces from a to b in that order": the edge e is cut by the vertices n, n + 1 and so on. Each cut halves what is left of
-- it.
unfoldable pub pieces_at : Edge → List Cut → ℕ → List Edge
pieces_at e [] n = e ∷ []
pieces_at e (c ∷ cs) n = (halves_of e c.t n).old ∷ pieces_at (halves_of e c.t n).new cs (n + 1)

-- "the first under the old number": in place of edge i, and the others are appended
abbrev pub with_pieces : List Edge → ℕ → List Edge → List Edge
with_pieces es i [] = es
with_pieces es i (p ∷ ps) = set es i p ++ ps

-- the new vertices: "64 cuts with their points"
abbrev pub points_of : List Cut → List Vertex
points_of cs = map (λ c. given c.point) cs

-- "and new vertices and edges are numbered along the curve". Edge number i is e.
unfoldable pub cut_at_points : Shell → ℕ → Edge → List Cut → Shell
cut_at_points s i e cs =
    record {
      vertices = s.vertices ++ points_of cs;
      edges = with_pieces s.edges i (pieces_at e cs (length s.vertices));
      wires = mended (parts_of i (length s.edges) (length cs)) s.wires;
    }
