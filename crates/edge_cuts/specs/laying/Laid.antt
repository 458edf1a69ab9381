-- The pieces of an edge in the rows of a slice. Definitions only.
use Rattle.std.specs.Prelude.{List, [], ◌∷◌, ℕ}
use Rattle.compress.specs.Layout.{Layout, put, store_from}

-- the first in row i, and the others in the rows m, m + 1 and so on
abbrev pub laid_from : {A R : Type 0} → Layout A R → List A → ℕ → ℕ → List R → List A
laid_from l s i m [] = s
laid_from l s i m (p ∷ ps) = store_from l (put l s i p) m ps
