-- The cells of a buffer. Definitions only.
use Rattle.std.specs.Prelude.{List, take}
use Rattle.stored.specs.declared.stored_cells.Buffer.{Buffer}

-- the first of the array, as many as are counted
abbrev pub cells_of : {A : Type 0} → Buffer A → List A
cells_of b = take b.count b.cells
