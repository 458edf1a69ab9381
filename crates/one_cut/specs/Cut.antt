-- One cut (`cut_edge_by_intersections`, `insert_new_edges`) of a shell. Definitions only.
use Rattle.std.specs.Prelude.{Option, Some, None, List, [], ◌∷◌, ◌++◌, ℕ, length, set, replicate}
use Rattle.compress.specs.declared.Edge.{Edge}
use Rattle.compress.specs.Points.{given}
use Rattle.compress.specs.Shell.{Shell}
use Rattle.cutting.specs.cut_edge.Cut.{halves_of}
use Rattle.cutting.specs.mending.Replace.{replace_wires}
use Rattle.edge_cuts.specs.declared.cuts.Cut.{Cut}

-- the map of the closed-edge pass where of n edges just edge i is cut, and m is cut off it
unfoldable pub added_at : ℕ → ℕ → ℕ → List (Option ℕ)
added_at n i m = set (replicate n None) i (Some m)

-- "One cut at t, with its given point: edge (a, b) becomes (a, n), the new edge is (n, b), and every wire handed in is mended by the
-- replacement rule above." Edge number i is e.
unfoldable pub cut_once : Shell → ℕ → Edge → Cut → Shell
cut_once s i e c =
    record {
      vertices = s.vertices ++ (given c.point ∷ []);
      edges = set s.edges i (halves_of e c.t (length s.vertices)).old ++ ((halves_of e c.t (length s.vertices)).new ∷ []);
      wires = replace_wires (added_at (length s.edges) i (length s.edges)) s.wires;
    }
