-- The places of a vertex in wires, and an open wire closed by another: document 01's "Join". Edges are given by number. Definitions only.
use Rattle.std.specs.Prelude.{List, [], ◌∷◌, ◌++◌, ℕ, ◌+◌, Option, Some, None, eqb, ltb, length}
use Rattle.compress.specs.declared.Edge.{Edge}
use Rattle.compress.specs.Records.{pick, front_at}
use Rattle.compress.specs.Said.{Said, result, none, on_result}
use Rattle.rows.specs.wires.Turn.{turned}
use Rattle.join.specs.declared.laying.turned.TurnedWire.{TurnedWire}

-- how many uses stand before the first whose front is v: all of them, where v is no front
unfoldable pub index_of : (ℕ → Edge) → ℕ → List ℕ → ℕ
index_of es v [] = 0
index_of es v (u ∷ us) = pick (eqb (front_at es u) v) 0 (index_of es v us + 1)

-- how many wires stand before the first that has v as a front: all of them, where none has
unfoldable pub wire_index_of : (ℕ → Edge) → ℕ → List (List ℕ) → ℕ
wire_index_of es v [] = 0
wire_index_of es v (w ∷ ws) = pick (ltb (index_of es v w) (length w)) 0 (wire_index_of es v ws + 1)

-- "Anything not found is "none"": a place below the end is found
abbrev pub found_before : ℕ → ℕ → Said ℕ
found_before end i = pick (ltb i end) (result i) none

-- what a search answers, in document 01's terms
abbrev pub found : Option ℕ → Said ℕ
found (Some i) = result i
found None = none

-- the place of the vertex v in a wire, "as a front"
abbrev pub place_in : (ℕ → Edge) → ℕ → List ℕ → Said ℕ
place_in es v w = found_before (length w) (index_of es v w)

-- the first wire that holds the vertex v, by its place among the wires
abbrev pub holder_in : (ℕ → Edge) → ℕ → List (List ℕ) → Said ℕ
holder_in es v ws = found_before (length ws) (wire_index_of es v ws)

-- "turn the result to v1; append the second": `wire` is the first open wire with the new wire behind it
unfoldable pub closed_by : (ℕ → Edge) → ℕ → List ℕ → List ℕ → Said (List ℕ)
closed_by es v1 wire second = on_result (place_in es v1 wire) (λ l. result (turned l wire ++ second))

-- the first open wire with the new wire, turned to v0, behind it, closed by the second
abbrev pub joined_from : (ℕ → Edge) → ℕ → ℕ → TurnedWire → TurnedWire → List ℕ → Said (List ℕ)
joined_from es v0 v1 first second wire =
    closed_by es v1 (turned first.by first.wire.now ++ turned (index_of es v0 wire) wire) (turned second.by second.wire.now)
