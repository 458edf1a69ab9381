-- What a call of the join is lent, said of the structs. Definitions only.
use Rattle.std.specs.Prelude.{List, ℕ}
use Rattle.compress.specs.declared.Edge.{Edge}
use Rattle.rows.specs.declared.lent.Stretch.{Stretch}
use Rattle.rows.specs.declared.lent.Wires.{Wires}
use Rattle.rows.specs.declared.lent.WiresMut.{WiresMut}
use Rattle.rows.specs.declared.tables.Table.{Table}
use Rattle.join.specs.Contract.{LentJoin}

-- how many vertices there are, the edges, two open wires, the uses and the lengths of the new wires and how many they are, and the two vertices
abbrev lent_with : ℕ → Table Edge → Stretch → Stretch → List ℕ → List ℕ → ℕ → ℕ → ℕ → LentJoin
lent_with vertices e a b us ls wires v0 v1 =
    record {
      en = e.numbers.now;
      ef = e.floats.now;
      first = a.uses.now;
      second = b.uses.now;
      us = us;
      ls = ls;
      vertices = vertices;
      edges = e.count;
      first_count = a.count;
      second_count = b.count;
      wires = wires;
      v0 = v0;
      v1 = v1;
    }

-- the new wires read
abbrev pub lent : ℕ → Table Edge → Stretch → Stretch → Wires → ℕ → ℕ → LentJoin
lent vertices e a b w v0 v1 = lent_with vertices e a b w.uses.now w.lengths.now w.count v0 v1

-- and written
abbrev pub lent_mut : ℕ → Table Edge → Stretch → Stretch → WiresMut → ℕ → ℕ → LentJoin
lent_mut vertices e a b w v0 v1 = lent_with vertices e a b w.uses.now w.lengths.now w.count v0 v1
