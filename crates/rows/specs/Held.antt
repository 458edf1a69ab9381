-- What the structs of lent slices hold. Definitions only.
use Rattle.std.specs.Prelude.{Bool, ◌&&◌, List, ℕ, leb, length, take}
use Rattle.compress.specs.declared.Edge.{Edge}
use Rattle.compress.specs.declared.Vertex.{Vertex}
use Rattle.compress.specs.Rows.{edge_at, vertex_at}
use Rattle.compress.specs.Shell.{Lent}
use Rattle.compress.specs.Wires.{total, wires_of}
use Rattle.rows.specs.declared.tables.Table.{Table}
use Rattle.rows.specs.declared.tables.TableMut.{TableMut}
use Rattle.rows.specs.declared.lent.Wires.{Wires}
use Rattle.rows.specs.declared.lent.WiresMut.{WiresMut}

-- the wires
abbrev pub wires_in : Wires → List (List ℕ)
wires_in w = wires_of w.uses.now (take w.count w.lengths.now)

abbrev pub wires_held : WiresMut → List (List ℕ)
wires_held w = wires_of w.uses.now (take w.count w.lengths.now)

-- they are at most 64, and their lengths and uses are lent
abbrev pub lie_in : Wires → Bool
lie_in w = leb w.count 64 && (leb w.count (length w.lengths.now) && leb (total (take w.count w.lengths.now)) (length w.uses.now))

-- the uses of all wires
abbrev pub all_uses : Wires → List ℕ
all_uses w = take (total (take w.count w.lengths.now)) w.uses.now

-- the records in the rows of a table that is lent
abbrev pub vertices_in : Table Vertex → ℕ → Vertex
vertices_in t = vertex_at t.numbers.now t.floats.now

abbrev pub edges_in : Table Edge → ℕ → Edge
edges_in t = edge_at t.numbers.now t.floats.now

-- the edge of row i
abbrev pub edge_in : TableMut Edge → ℕ → Edge
edge_in t i = edge_at t.numbers.now t.floats.now i

-- the slices and counts of a shell
abbrev pub shell_in : Table Vertex → Table Edge → Wires → Lent
shell_in v e w =
    record {
      slices = record { vn = v.numbers.now; vf = v.floats.now; en = e.numbers.now; ef = e.floats.now; us = w.uses.now; ls = w.lengths.now };
      vertices = v.count;
      edges = e.count;
      wires = w.count;
    }
