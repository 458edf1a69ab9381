-- What a call of the split is lent, said of the structs. Definitions only.
use Rattle.std.specs.Prelude.{List, ℕ, Float}
use Rattle.compress.specs.declared.Edge.{Edge}
use Rattle.rows.specs.declared.lent.Wires.{Wires}
use Rattle.rows.specs.declared.tables.Table.{Table}
use Rattle.rows.specs.declared.tables.TableMut.{TableMut}
use Rattle.split.specs.declared.seams.Divisor.{Divisor}
use Rattle.split.specs.split_causes.Causes.{LentSplit}

-- the numbers, the floats and the count of the edges, the face's wires and those to be rebuilt, the divisor, the buffers, how many vertices there are, and
-- the surface
abbrev lent_with : List ℕ → List Float → ℕ → Wires → Wires → Divisor → List ℕ → List ℕ → ℕ → ℕ → LentSplit
lent_with en ef edges f r d us ls vertices surface =
    record {
      buffers = record { en = en; ef = ef; us = us; ls = ls };
      face_uses = f.uses.now;
      face_lengths = f.lengths.now;
      rebuilt_uses = r.uses.now;
      rebuilt_lengths = r.lengths.now;
      divisor = d.vertices.now;
      points = d.points.now;
      vertices = vertices;
      edges = edges;
      face_wires = f.count;
      rebuilt_wires = r.count;
      stops = d.count;
      surface = surface;
    }

-- the edges read
abbrev pub lent : Table Edge → Wires → Wires → Divisor → List ℕ → List ℕ → ℕ → ℕ → LentSplit
lent e f r d us ls vertices surface = lent_with e.numbers.now e.floats.now e.count f r d us ls vertices surface

-- and written
abbrev pub lent_mut : TableMut Edge → Wires → Wires → Divisor → List ℕ → List ℕ → ℕ → ℕ → LentSplit
lent_mut e f r d us ls vertices surface = lent_with e.numbers.now e.floats.now e.count f r d us ls vertices surface
