-- Records in the rows of a slice, for any kind of record and of cell. Definitions only.
use Rattle.std.specs.Prelude.{List, [], ◌∷◌, ℕ, zero, suc, ◌+◌, ◌*◌}
use Rattle.std.proofs.lemmas.List.Edits.{sets}

-- How a record lies in its row: how many cells a row has, the first cell that the record has, and what stands from there on.
pub record Layout (A R : Type 0) : Type 0 where
  pub width : ℕ
  pub first : R → ℕ
  pub cells : R → List A

-- The record r is written to row i. "Cells that a record of its kind does not have keep what they held."
unfoldable pub put : {A R : Type 0} → Layout A R → List A → ℕ → R → List A
put l s i r = sets s (i * l.width + l.first r) (l.cells r)

-- The records are written to the rows i, i + 1 and so on, and every other cell is left.
unfoldable pub store_from : {A R : Type 0} → Layout A R → List A → ℕ → List R → List A
store_from l s i [] = s
store_from l s i (r ∷ rs) = store_from l (put l s i r) (i + 1) rs

abbrev pub store : {A R : Type 0} → Layout A R → List A → List R → List A
store l s rs = store_from l s 0 rs

-- The records of rows a, a + 1 and so on, n of them, by what a row holds.
unfoldable pub rows : {R : Type 0} → (ℕ → R) → ℕ → ℕ → List R
rows at a zero = []
rows at a (suc n) = at a ∷ rows at (a + 1) n
