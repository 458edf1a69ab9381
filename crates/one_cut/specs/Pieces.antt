-- What one cut makes of a wire, said use by use. Definitions only.
use Rattle.std.specs.Prelude.{List, [], ◌∷◌, ℕ, ◌+◌, ◌*◌, eqb}
use Rattle.compress.specs.Records.{pick, forward, edge_of_use}

-- "each use of the cut edge becomes its two pieces in order, every other use stands as it did": edge i is cut, and m is cut off it
unfoldable pub pieces_of : ℕ → ℕ → ℕ → List ℕ
pieces_of i m u = pick (eqb (edge_of_use u) i) (pick (forward u) (u ∷ m * 2 ∷ []) ((m * 2 + 1) ∷ u ∷ [])) (u ∷ [])
