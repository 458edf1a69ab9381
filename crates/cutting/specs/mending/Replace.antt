-- Document 001's `replace_edges`, on values. Definitions only.
use Rattle.std.specs.Prelude.{Bool, true, false, Option, Some, None, List, [], ◌∷◌, ◌++◌, ℕ, ◌+◌, ◌*◌, get_or}
use Rattle.compress.specs.Records.{forward, edge_of_use}

-- "In a wire, e+ becomes e+ then the new edge forward; e- becomes the new edge reversed, then e-."
abbrev pub replaced_by : Bool → ℕ → ℕ → List ℕ
replaced_by true u new = u ∷ new * 2 ∷ []
replaced_by false u new = (new * 2 + 1) ∷ u ∷ []

-- a use, and the edge cut off its edge, if that was cut
unfoldable pub replace_use : ℕ → Option ℕ → List ℕ
replace_use u None = u ∷ []
replace_use u (Some new) = replaced_by (forward u) u new

-- `replace_edges` of a wire
unfoldable pub replace_edges : List (Option ℕ) → List ℕ → List ℕ
replace_edges added [] = []
replace_edges added (u ∷ us) = replace_use u (get_or added (edge_of_use u) None) ++ replace_edges added us

unfoldable pub replace_wires : List (Option ℕ) → List (List ℕ) → List (List ℕ)
replace_wires added [] = []
replace_wires added (w ∷ ws) = replace_edges added w ∷ replace_wires added ws
