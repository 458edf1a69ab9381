-- What the mending of the wires in the closed-edge pass asks and leaves. Definitions only.
use Rattle.std.specs.Prelude.{◌≡◌, Result, Ok, Err, IfOk, List, ℕ, leb, Float, length, take}
use Rattle.compress.specs.declared.Counts.{Counts}
use Rattle.compress.specs.declared.Edge.{Edge}
use Rattle.compress.specs.declared.Refusal.{Refusal}
use Rattle.compress.specs.declared.Vertex.{Vertex}
use Rattle.rows.specs.declared.tables.Table.{Table}
use Rattle.rows.specs.declared.tables.TableMut.{TableMut}
use Rattle.rows.specs.declared.lent.WiresMut.{WiresMut}
use Rattle.compress.specs.Layout.{rows}
use Rattle.compress.specs.Rows.{edge_at}
use Rattle.compress.specs.Wires.{wires_of}
use Rattle.cutting.specs.mending.Replace.{replace_wires}
use Rattle.cutting.specs.declared.mending.NoRoom.{NoRoom}
use Rattle.cutting.specs.mending.Steps.{InPlace}
use Rattle.split_closed_edges.specs.add_edges.Add.{added_to}
use Rattle.split_closed_edges.specs.add_edges.Steps.{closed_count, VerticesPass}
use Rattle.split_closed_edges.specs.declared.Closing.{Closing}

-- how many edges are closed
abbrev pub closed_in : List ℕ → List Float → ℕ → ℕ
closed_in en ef edges = closed_count (rows (edge_at en ef) 0 edges)

-- what the mending alone told
abbrev pub uses_told : Result Closing NoRoom → Result ℕ NoRoom
uses_told (Ok m) = Ok m.uses
uses_told (Err e) = Err e

-- the wires mended by the map of the closed edges, in place where there is room for the uses and for the halves, and how many edges are closed
pub record ClosedMended (en : List ℕ) (edges wires room : ℕ) (us ls us' ls' : List ℕ) (r : Result Closing NoRoom) : Type 0 where
  pub cut : (ef : List Float) → IfOk r (λ m. m.cuts ≡ closed_in en ef edges)
  pub mended : (ef : List Float) → InPlace (replace_wires (added_to (length (rows (edge_at en ef) 0 edges)) (rows (edge_at en ef) 0 edges)) (wires_of us (take wires ls)))
      (leb (closed_in en ef edges) room) us ls us' ls' (uses_told r)

-- the same of the structs that hold the slices
abbrev pub closed_mended : Table Edge → ℕ → WiresMut → WiresMut → Result Closing NoRoom → Type 0
closed_mended edges room before after r =
    ClosedMended edges.numbers.now edges.count before.count room before.uses.now before.lengths.now after.uses.now after.lengths.now r

-- "the parameter never leaves its range", said of what the pass leaves: where it tells counts, no vertex below them has a cause
abbrev pub ParametersWithin : Result Counts Refusal → TableMut Vertex → Type 0
ParametersWithin r v = IfOk r (λ c. VerticesPass v.numbers.now v.floats.now c.vertices)
