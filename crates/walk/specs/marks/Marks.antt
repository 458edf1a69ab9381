-- The uses of the edges that a split adds, and the marks. Definitions only.
use Rattle.std.specs.Prelude.{Bool, ◌&&◌, ◌||◌, List, [], ◌∷◌, ℕ, zero, suc, ◌+◌, ◌*◌, eqb, leb, ltb}
use Rattle.compress.specs.Records.{pick, edge_of_use}

-- "then each new edge forward and reversed": k new edges from number m on
unfoldable pub new_uses : ℕ → ℕ → List ℕ
new_uses m zero = []
new_uses m (suc k) = m * 2 ∷ (m * 2 + 1) ∷ new_uses (m + 1) k

-- how often an edge number occurs among uses, whichever direction
unfoldable pub occurs : ℕ → List ℕ → ℕ
occurs e [] = 0
occurs e (u ∷ us) = pick (eqb (edge_of_use u) e) 1 0 + occurs e us

-- one of the k new edges from number m on
abbrev pub is_new_edge : ℕ → ℕ → ℕ → Bool
is_new_edge m k e = leb m e && ltb e (m + k)

-- "Marked are edge numbers that occur twice or more in the face's wires, and the new edges": k of them from number m on
unfoldable pub marked_by : List ℕ → ℕ → ℕ → ℕ → Bool
marked_by face m k u = is_new_edge m k (edge_of_use u) || leb 2 (occurs (edge_of_use u) face)
