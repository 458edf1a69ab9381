-- The edges and the wire that worked cases share. Definitions only.
use Rattle.std.specs.Prelude.{List, [], ◌∷◌, ℕ}
use Rattle.compress.specs.declared.Curve.TheVariants.{Span}
use Rattle.compress.specs.declared.Preparation.TheVariants.{Square}
use Rattle.compress.specs.declared.Edge.{Edge}
use Rattle.compress.specs.Constants.{zero64, one64}

-- an edge of a curve from 0 to 1
abbrev pub between : ℕ → ℕ → Edge
between a b = record { front = a; back = b; curve = Span 0 zero64 one64; preparation = Square }

-- "K9: edges 0 = (0, 2), 1 = (0, 1), 2 = (1, 0), 3 = (2, 3), 4 = (3, 2); .. wire 1+ 2+ 0+ 3+ 4+ 0-."
abbrev pub k9_edges : List Edge
k9_edges = between 0 2 ∷ between 0 1 ∷ between 1 0 ∷ between 2 3 ∷ between 3 2 ∷ []

abbrev pub k9_wire : List ℕ
k9_wire = 2 ∷ 4 ∷ 0 ∷ 6 ∷ 8 ∷ 1 ∷ []
