-- What the words of the program ask for. Definitions only.
use Rattle.std.specs.Prelude.{Option, Some, None, List, [], ◌∷◌, ℕ, ◌-◌, cond, ◌&&◌, eqb, leb}

-- "k=1" to "k=7", by their bytes, and no other word
abbrev pub eighths_of : List ℕ → Option ℕ
eighths_of (a ∷ b ∷ c ∷ []) = cond (eqb a 107 && eqb b 61 && (leb 49 c && leb c 55)) (Some (c - 48)) None
eighths_of w = None
