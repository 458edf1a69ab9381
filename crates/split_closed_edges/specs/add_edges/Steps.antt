-- What the steps of the pass ask and leave: one turn of `add_edges`, all of it, and its map. Definitions only.
use Rattle.std.specs.Prelude.{Bool, true, false, ◌≡◌, Option, List, [], ◌∷◌, ◌++◌, ℕ, ◌+◌, ◌*◌, ◌≤◌, ◌<◌, length, drop, Float}
use Rattle.compress.specs.declared.Curve.{Curve}
use Rattle.compress.specs.declared.Edge.{Edge}
use Rattle.compress.specs.declared.Vertex.{Vertex}
use Rattle.compress.specs.Records.{closed}
use Rattle.compress.specs.Layout.{Layout, put, store, store_from, rows}
use Rattle.compress.specs.Rows.{numbers_per_edge, floats_per_edge, numbers_per_vertex, floats_per_vertex, KnownEdge, edge_at, vertex_at, edge_number_layout, edge_float_layout, vertex_number_layout, vertex_float_layout}
use Rattle.checks.specs.Causes.{curve_cause, vertex_cause}
use Rattle.cutting.specs.cut_edge.Cut.{halves_of, pending_of}
use Rattle.split_closed_edges.specs.add_edges.Add.{next, kept_edges, new_edges, new_vertices, added_to}

-- where the edge e of row i is closed, its halves stand in the rows i and m, cut by the vertex n
abbrev pub cut_rows : {A : Type 0} → Layout A Edge → (Curve → Float) → Bool → ℕ → ℕ → ℕ → Edge → List A → List A
cut_rows l at true n i m e s = put l (put l s i (halves_of e (at e.curve) n).old) m (halves_of e (at e.curve) n).new
cut_rows l at false n i m e s = s

-- where it is closed, row n holds the new vertex
abbrev pub pending_row : {A : Type 0} → Layout A Vertex → (Curve → Float) → Bool → ℕ → Edge → List A → List A
pending_row l at true n e s = put l s n (pending_of at e)
pending_row l at false n e s = s

-- how many edges are closed
unfoldable pub closed_count : List Edge → ℕ
closed_count [] = 0
closed_count (e ∷ es) = next (closed e) (closed_count es)

-- a turn that cuts has a row for the vertex n and one for the edge m
pub record PlaceFor (n m : ℕ) (vn : List ℕ) (vf : List Float) (en : List ℕ) (ef : List Float) : Type 0 where
  pub below : n < 4096
  pub vertex_numbers : n * numbers_per_vertex + numbers_per_vertex ≤ length vn
  pub vertex_floats : n * floats_per_vertex + floats_per_vertex ≤ length vf
  pub edge_numbers : m * numbers_per_edge + numbers_per_edge ≤ length en
  pub edge_floats : m * floats_per_edge + floats_per_edge ≤ length ef

-- the vertices of the rows below n have no cause: of each pending one the parameter lies within the range of its curve
abbrev pub VerticesPass : List ℕ → List Float → ℕ → Type 0
VerticesPass vn vf n = (k : ℕ) → k < n → vertex_cause (vertex_at vn vf k) ≡ 0

-- `add_edges` has a row for each vertex and each edge of its result, the kinds and preparations of its edges are known ones, and no vertex and no curve has a cause
pub record Addable (n count : ℕ) (vn : List ℕ) (vf : List Float) (en : List ℕ) (ef : List Float) : Type 0 where
  pub below : n + closed_count (rows (edge_at en ef) 0 count) ≤ 4096
  pub vertex_numbers : (n + closed_count (rows (edge_at en ef) 0 count)) * numbers_per_vertex ≤ length vn
  pub vertex_floats : (n + closed_count (rows (edge_at en ef) 0 count)) * floats_per_vertex ≤ length vf
  pub edge_numbers : (count + closed_count (rows (edge_at en ef) 0 count)) * numbers_per_edge ≤ length en
  pub edge_floats : (count + closed_count (rows (edge_at en ef) 0 count)) * floats_per_edge ≤ length ef
  pub known : (j : ℕ) → j < count → KnownEdge en j
  pub vertices : VerticesPass vn vf n
  pub curves : (j : ℕ) → j < count → curve_cause (edge_at en ef j).curve ≡ 0

-- the slices after `add_edges`: the edges with their halves, and the new vertices from row n on, which have no cause either
pub record Added (at : Curve → Float) (n count : ℕ) (vn : List ℕ) (vf : List Float) (en : List ℕ) (ef : List Float)
    (vn' : List ℕ) (vf' : List Float) (en' : List ℕ) (ef' : List Float) : Type 0 where
  pub vertex_numbers : vn' ≡ store_from vertex_number_layout vn n (new_vertices at (rows (edge_at en ef) 0 count))
  pub vertex_floats : vf' ≡ store_from vertex_float_layout vf n (new_vertices at (rows (edge_at en ef) 0 count))
  pub edge_numbers : en' ≡ store edge_number_layout en (kept_edges at n (rows (edge_at en ef) 0 count) ++ new_edges at n (rows (edge_at en ef) 0 count))
  pub edge_floats : ef' ≡ store edge_float_layout ef (kept_edges at n (rows (edge_at en ef) 0 count) ++ new_edges at n (rows (edge_at en ef) 0 count))
  pub vertices : VerticesPass vn' vf' (n + closed_count (rows (edge_at en ef) 0 count))

-- the map of `add_edges` written over the front of a table, and how many edges are closed
pub record Marked (es : List Edge) (before added : List (Option ℕ)) (r : ℕ) : Type 0 where
  pub map : added ≡ added_to (length es) es ++ drop (length es) before
  pub count : r ≡ closed_count es
