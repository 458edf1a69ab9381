-- A struct that holds lent slices refers to the same ones as before, as long as they were, with the same count. Definitions only.
use Rattle.std.specs.Prelude.{◌≡◌, length}
use Rattle.rows.specs.declared.lent.WiresMut.{WiresMut}
use Rattle.rows.specs.declared.tables.TableMut.{TableMut}

pub record SameTable {R : Type 0} (before after : TableMut R) : Type 0 where
  pub numbers : after.numbers.ghost_name ≡ before.numbers.ghost_name
  pub floats : after.floats.ghost_name ≡ before.floats.ghost_name
  pub numbers_len : length after.numbers.now ≡ length before.numbers.now
  pub floats_len : length after.floats.now ≡ length before.floats.now
  pub count : after.count ≡ before.count

pub record SameWires (before after : WiresMut) : Type 0 where
  pub uses : after.uses.ghost_name ≡ before.uses.ghost_name
  pub lengths : after.lengths.ghost_name ≡ before.lengths.ghost_name
  pub uses_len : length after.uses.now ≡ length before.uses.now
  pub lengths_len : length after.lengths.now ≡ length before.lengths.now
  pub count : after.count ≡ before.count
