-- A shell that was stored is the shell that is loaded.
-- Assumes nothing.
use mathlib.Core.Path.{◌≡◌, sym}
use mathlib.Core.Bool.{true, ◌&&◌}
use mathlib.Core.List.{List}
use Prim.Native.Nat.{ℕ, ◌+◌, ◌*◌, ◌≤◌, ◌<◌}
use native.Mathlib.Omega.{arith}
use lib.ListN.{length, get_or}
use lib.Ieee.{Float}
use Rattle.std.proofs.lemmas.Bool.{and_parts}
use Rattle.compress.specs.declared.Edge.{Edge}
use Rattle.compress.specs.declared.Vertex.{Vertex}
use Rattle.compress.specs.Records.{preparation_number}
use Rattle.compress.specs.Layout.{store_from, rows}
use Rattle.compress.specs.Rows.{edge_preparation, numbers_per_edge, floats_per_edge, numbers_per_vertex, floats_per_vertex, preparation_at, KnownEdge, edge_of, edge_at, vertex_at, edge_number_layout, edge_float_layout, vertex_number_layout, vertex_float_layout}
use Rattle.compress.specs.Shell.{Shell, Slices, Lent, load, store_shell, stored_lent, counts_of, has_room, vertices_fit, edges_fit}
use Rattle.compress.proofs.Layouts.{row_at}
use Rattle.compress.proofs.Reading.{Reader, cell_read, store_read}
use Rattle.compress.proofs.Room.{vertices_room, edges_room}
use Rattle.compress.proofs.Rows.{edge_numbers_fit, preparation_kept, edge_same, edge_other, vertex_same, vertex_other}
use Rattle.compress.proofs.Wires.{wires_stored}

unfoldable edge_reader : Reader ℕ Float Edge
unfolding edge_number_layout edge_float_layout
edge_reader =
    record {
      numbers = edge_number_layout;
      floats = edge_float_layout;
      at = edge_at;
      same = λ ns fs i e hn hf. edge_same ns fs i e hn hf;
      other = λ ns fs i e m ne. edge_other ns fs i e m ne;
    }

unfoldable vertex_reader : Reader ℕ Float Vertex
unfolding vertex_number_layout vertex_float_layout
vertex_reader =
    record {
      numbers = vertex_number_layout;
      floats = vertex_float_layout;
      at = vertex_at;
      same = λ ns fs i v hn hf. vertex_same ns fs i v hn hf;
      other = λ ns fs i v m ne. vertex_other ns fs i v m ne;
    }

-- edges that were stored from row i on are read there
pub edges_read : (es : List Edge) (ns : List ℕ) (fs : List Float) (i : ℕ) → (i + length es) * numbers_per_edge ≤ length ns → (i + length es) * floats_per_edge ≤ length fs
    → rows (edge_at (store_from edge_number_layout ns i es) (store_from edge_float_layout fs i es)) i (length es) ≡ es
unfolding edge_reader edge_number_layout edge_float_layout
edges_read es ns fs i hn hf = store_read edge_reader es ns fs i hn hf

-- and so are vertices
pub vertices_read : (vs : List Vertex) (ns : List ℕ) (fs : List Float) (i : ℕ) → (i + length vs) * numbers_per_vertex ≤ length ns → (i + length vs) * floats_per_vertex ≤ length fs
    → rows (vertex_at (store_from vertex_number_layout ns i vs) (store_from vertex_float_layout fs i vs)) i (length vs) ≡ vs
unfolding vertex_reader vertex_number_layout vertex_float_layout
vertices_read vs ns fs i hn hf = store_read vertex_reader vs ns fs i hn hf

-- the preparation in a row that was stored is that of the record
pub preparation_stored : (d : Edge) (es : List Edge) (ns : List ℕ) (j : ℕ) → j < length es → length es * numbers_per_edge ≤ length ns
    → preparation_at (store_from edge_number_layout ns 0 es) j ≡ preparation_number (get_or es j d).preparation
unfolding edge_number_layout
preparation_stored d es ns j lt h =
    cell_read edge_number_layout edge_numbers_fit 0 d es ns 0 j edge_preparation (j * numbers_per_edge + edge_preparation) lt (omega arith) (omega arith) (omega arith)

-- and so it is in a row that is read, where it is a known one
pub preparation_read : (ns : List ℕ) (fs : List Float) (i : ℕ) → KnownEdge ns i → preparation_number (edge_at ns fs i).preparation ≡ preparation_at ns i
unfolding edge_of
preparation_read ns fs i h = preparation_kept (preparation_at ns i) h.1

-- the edge in a row is that of the shell
pub edge_loaded : (l : Lent) (d : Edge) (i : ℕ) → i < l.edges → edge_at l.slices.en l.slices.ef i ≡ get_or (load l).edges i d
unfolding load
edge_loaded l d i h = sym (row_at d (edge_at l.slices.en l.slices.ef) l.edges i h)

-- where there was room, the slices that a shell was written over, with its counts, hold the shell
pub load_store : (s : Slices) (r : Shell) → has_room s (counts_of r) ≡ true → load (stored_lent s r) ≡ r
unfolding load store_shell has_room counts_of
load_store s r room =
    let a = and_parts (vertices_fit s.vn s.vf (length r.vertices) && edges_fit s.en s.ef (length r.edges)) _ room in
    let b = and_parts (vertices_fit s.vn s.vf (length r.vertices)) (edges_fit s.en s.ef (length r.edges)) a.0 in
    let v = vertices_room s.vn s.vf (length r.vertices) b.0 in
    let e = edges_room s.en s.ef (length r.edges) b.1 in
    rw (
      vertices_read r.vertices s.vn s.vf 0 (omega arith) (omega arith),
      edges_read r.edges s.en s.ef 0 (omega arith) (omega arith),
      wires_stored r.wires s.us s.ls,
    )
