-- A shell (`CompressedShell`) on values, and the six lent slices in which it lies. Definitions only.
use Rattle.std.specs.Prelude.{Bool, ◌&&◌, List, ℕ, ◌*◌, leb, length, take, Float}
use Rattle.compress.specs.declared.Edge.{Edge}
use Rattle.compress.specs.declared.Vertex.{Vertex}
use Rattle.compress.specs.declared.Counts.{Counts}
use Rattle.compress.specs.Layout.{store, rows}
use Rattle.compress.specs.Rows.{numbers_per_edge, floats_per_edge, numbers_per_vertex, floats_per_vertex, edge_at, vertex_at, edge_number_layout, edge_float_layout, vertex_number_layout, vertex_float_layout}
use Rattle.compress.specs.Wires.{wires_of, uses_of, lengths_of, over}

-- a wire is a row of uses; the wires are those of all faces, in order
pub record Shell : Type 0 where
  pub vertices : List Vertex
  pub edges : List Edge
  pub wires : List (List ℕ)

-- the contents of the lent slices: vertex numbers and floats, edge numbers and floats, uses, wire lengths
pub record Slices : Type 0 where
  pub vn : List ℕ
  pub vf : List Float
  pub en : List ℕ
  pub ef : List Float
  pub us : List ℕ
  pub ls : List ℕ

-- what a call is lent: the slices, and how many vertices, edges and wires they hold
pub record Lent : Type 0 where
  pub slices : Slices
  pub vertices : ℕ
  pub edges : ℕ
  pub wires : ℕ

-- the shell that lies in the slices
unfoldable pub load : Lent → Shell
load l =
    record {
      vertices = rows (vertex_at l.slices.vn l.slices.vf) 0 l.vertices;
      edges = rows (edge_at l.slices.en l.slices.ef) 0 l.edges;
      wires = wires_of l.slices.us (take l.wires l.slices.ls);
    }

-- the slices with a shell written over their front: "Entries past a result keep what they held"
unfoldable pub store_shell : Slices → Shell → Slices
store_shell s r =
    record {
      vn = store vertex_number_layout s.vn r.vertices;
      vf = store vertex_float_layout s.vf r.vertices;
      en = store edge_number_layout s.en r.edges;
      ef = store edge_float_layout s.ef r.edges;
      us = over (uses_of r.wires) s.us;
      ls = over (lengths_of r.wires) s.ls;
    }

-- what is lent where a shell was written over the front of the slices
abbrev pub stored_lent : Slices → Shell → Lent
stored_lent s r = record { slices = store_shell s r; vertices = length r.vertices; edges = length r.edges; wires = length r.wires }

unfoldable pub counts_of : Shell → Counts
counts_of r = record { vertices = length r.vertices; edges = length r.edges; uses = length (uses_of r.wires) }

-- n rows of w numbers and v floats are within the bound of 4,096, and a place is lent for each of their cells
abbrev pub rows_fit : ℕ → ℕ → List ℕ → List Float → ℕ → Bool
rows_fit w v ns fs n = leb n 4096 && (leb (n * w) (length ns) && leb (n * v) (length fs))

unfoldable pub vertices_fit : List ℕ → List Float → ℕ → Bool
vertices_fit = rows_fit numbers_per_vertex floats_per_vertex

unfoldable pub edges_fit : List ℕ → List Float → ℕ → Bool
edges_fit = rows_fit numbers_per_edge floats_per_edge

-- "1,024 uses out"
unfoldable pub uses_fit : List ℕ → ℕ → Bool
uses_fit us n = leb n 1024 && leb n (length us)

-- no bound on a count is passed by the result, and no lent buffer is too short for it (cause 6)
unfoldable pub has_room : Slices → Counts → Bool
has_room s c = vertices_fit s.vn s.vf c.vertices && edges_fit s.en s.ef c.edges && uses_fit s.us c.uses
