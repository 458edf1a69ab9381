-- Join (`connect_open_boundaries`), on wires. Edges are given by number. Definitions only.
use Rattle.std.specs.Prelude.{List, [], ◌∷◌, ℕ, eqb, get_or}
use Rattle.compress.specs.declared.Edge.{Edge}
use Rattle.compress.specs.Records.{pick}
use Rattle.compress.specs.Said.{Said, on_result}
use Rattle.rows.specs.wires.Turn.{turned}
use Rattle.join.specs.laying.Places.{index_of, holder_in}
use Rattle.join.specs.joined.Joined.{joined_to}

-- "Let i be the place (0 or 1) of the first open wire that has v0 as a front, and index its place there. If index is not 0, the two
-- open wires change places. .. turn the first by i": i and index are interchanged, as in the Rust.
unfoldable pub connected_at : (ℕ → Edge) → ℕ → ℕ → List ℕ → List ℕ → List (List ℕ) → ℕ → ℕ → Said (List (List ℕ))
connected_at es v0 v1 first second ws i index =
    joined_to es v0 v1 (turned i (pick (eqb index 0) first second)) (pick (eqb index 0) second first) ws

unfoldable pub connected : (ℕ → Edge) → ℕ → ℕ → List ℕ → List ℕ → List (List ℕ) → Said (List (List ℕ))
connected es v0 v1 first second ws =
    on_result (holder_in es v0 (first ∷ second ∷ []))
    (λ i. connected_at es v0 v1 first second ws i (index_of es v0 (get_or (first ∷ second ∷ []) i [])))
