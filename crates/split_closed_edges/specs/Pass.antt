-- Document 001 on values: `split_closed_edges` of a shell, where `at` tells the parameter at which a curve is cut. Definitions only.
use Rattle.std.specs.Prelude.{◌++◌, length, Float}
use Rattle.compress.specs.declared.Curve.{Curve}
use Rattle.compress.specs.Shell.{Shell}
use Rattle.cutting.specs.mending.Replace.{replace_wires}
use Rattle.split_closed_edges.specs.add_edges.Add.{kept_edges, new_edges, new_vertices, added_to}

-- the pass
unfoldable pub split_closed_edges : (Curve → Float) → Shell → Shell
split_closed_edges at s =
    record {
      vertices = s.vertices ++ new_vertices at s.edges;
      edges = kept_edges at (length s.vertices) s.edges ++ new_edges at (length s.vertices) s.edges;
      wires = replace_wires (added_to (length s.edges) s.edges) s.wires;
    }
