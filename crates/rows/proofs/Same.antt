-- A struct of lent slices that is left alone, or written once more, refers to the same slices. Assumes nothing.
use mathlib.Core.Path.{refl, ◌∙◌}
use Rattle.rows.specs.declared.tables.TableMut.{TableMut}
use Rattle.rows.specs.Places.{SameTable}

pub same_table : {R : Type 0} (t : TableMut R) → SameTable t t
same_table t = record { numbers = refl; floats = refl; numbers_len = refl; floats_len = refl; count = refl }

pub same_table_then : {R : Type 0} {t u v : TableMut R} → SameTable t u → SameTable u v → SameTable t v
same_table_then a b =
    record {
      numbers = b.numbers ∙ a.numbers;
      floats = b.floats ∙ a.floats;
      numbers_len = b.numbers_len ∙ a.numbers_len;
      floats_len = b.floats_len ∙ a.floats_len;
      count = b.count ∙ a.count;
    }
