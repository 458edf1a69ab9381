-- Connected and closed wires, and wires whose uses are replaced. Fronts and backs are given by use. Definitions only.
use Rattle.std.specs.Prelude.{◌≡◌, List, [], ◌∷◌, ◌++◌, ℕ}

-- "It is connected if each back is the next front"
unfoldable pub Connected : (front back : ℕ → ℕ) → List ℕ → Type 0
Connected front back [] = Unit
Connected front back (u ∷ []) = Unit
Connected front back (u ∷ v ∷ us) = (back u ≡ front v) × Connected front back (v ∷ us)

-- the back of the last of the uses us, and a where there is none
unfoldable pub last_back : (back : ℕ → ℕ) → ℕ → List ℕ → ℕ
last_back back a [] = a
last_back back a (u ∷ us) = last_back back (back u) us

-- "the last back is the first front"
unfoldable pub Closes : (front back : ℕ → ℕ) → List ℕ → Type 0
Closes front back [] = Unit
Closes front back (u ∷ us) = last_back back (back u) us ≡ front u

-- "and closed if also the last back is the first front"
abbrev pub Closed : (front back : ℕ → ℕ) → List ℕ → Type 0
Closed front back w = Connected front back w × Closes front back w

-- each use is replaced by a row of uses
unfoldable pub replaced : (ℕ → List ℕ) → List ℕ → List ℕ
replaced r [] = []
replaced r (u ∷ us) = r u ++ replaced r us
