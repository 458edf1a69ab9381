-- What a call of nearest ends is lent, said of the structs. Definitions only.
use Rattle.std.specs.Prelude.{ℕ}
use Rattle.rows.specs.declared.lent.Stretch.{Stretch}
use Rattle.rows.specs.declared.tables.Tables.{Tables}
use Rattle.correction.specs.Correction.{LentStretches}

abbrev pub lent : Tables → Stretch → Stretch → ℕ → LentStretches
lent t a b v0 =
    record {
      vn = t.vertices.numbers.now;
      vf = t.vertices.floats.now;
      en = t.edges.numbers.now;
      ef = t.edges.floats.now;
      first = a.uses.now;
      second = b.uses.now;
      vertices = t.vertices.count;
      edges = t.edges.count;
      first_count = a.count;
      second_count = b.count;
      v0 = v0;
    }
