-- Two open wires joined with the first new wire that holds v0: document 01's "Join". Edges are given by number. Definitions only.
use Rattle.std.specs.Prelude.{List, [], ◌++◌, ℕ, get_or, set}
use Rattle.compress.specs.declared.Edge.{Edge}
use Rattle.compress.specs.Said.{Said, result, on_result}
use Rattle.rows.specs.wires.Turn.{turned}
use Rattle.join.specs.laying.Places.{index_of, place_in, holder_in, closed_by}

-- "Append to the first the first new wire that holds v0, turned to it; .. That replaces the new wire."
unfoldable pub joined_at : (ℕ → Edge) → ℕ → ℕ → List ℕ → List ℕ → List (List ℕ) → ℕ → Said (List (List ℕ))
joined_at es v0 v1 first second ws w =
    on_result (closed_by es v1 (first ++ turned (index_of es v0 (get_or ws w [])) (get_or ws w [])) second) (λ joined. result (set ws w joined))

-- "The second must hold v1 as a front, at j; turn .. the second by j. Append to the first the first new wire that holds v0 .."
-- The first open wire is turned already.
unfoldable pub joined_to : (ℕ → Edge) → ℕ → ℕ → List ℕ → List ℕ → List (List ℕ) → Said (List (List ℕ))
joined_to es v0 v1 first second ws =
    on_result (place_in es v1 second) (λ j. on_result (holder_in es v0 ws) (joined_at es v0 v1 first (turned j second) ws))
