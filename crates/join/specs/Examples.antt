-- Worked examples of the join. Assumes nothing.
use Rattle.std.specs.Prelude.{◌≡◌, refl, [], ◌∷◌, ℕ, get_or}
use Rattle.compress.specs.declared.Edge.{Edge}
use Rattle.compress.specs.Records.{front_of, front_at}
use Rattle.compress.specs.Said.{result, none}
use Rattle.compress.specs.Worked.{between, k9_edges}
use Rattle.rows.specs.wires.Turn.{turned}
use Rattle.join.specs.laying.Places.{index_of, wire_index_of, closed_by}
use Rattle.join.specs.joined.Joined.{joined_at, joined_to}
use Rattle.join.specs.Join.{connected_at, connected}

-- K9's edges
abbrev pub k9 : ℕ → Edge
k9 i = get_or k9_edges i (between 0 0)

-- "K15: K9's edges; open 1+ 2+ and 3+ 4+; new wire 0+ 0-; v0 0, v1 2: result 0- 1+ 2+ 0+ 3+ 4+."
pub k15 : connected k9 0 2 (2 ∷ 4 ∷ []) (6 ∷ 8 ∷ []) ((0 ∷ 1 ∷ []) ∷ []) ≡ result ((1 ∷ 2 ∷ 4 ∷ 0 ∷ 6 ∷ 8 ∷ []) ∷ [])
unfolding front_of front_at turned index_of wire_index_of closed_by joined_at joined_to connected_at connected
k15 = refl

-- "K16: open wires in the other order: none."
pub k16 : connected k9 0 2 (6 ∷ 8 ∷ []) (2 ∷ 4 ∷ []) ((0 ∷ 1 ∷ []) ∷ []) ≡ none
unfolding front_of front_at turned index_of wire_index_of closed_by joined_at joined_to connected_at connected
k16 = refl

-- the first new wire that holds v0 is the one that is replaced, and its neighbours stand as they did
pub middle_replaced : connected k9 0 2 (2 ∷ 4 ∷ []) (6 ∷ 8 ∷ []) ((8 ∷ []) ∷ (0 ∷ 1 ∷ []) ∷ (2 ∷ []) ∷ [])
    ≡ result ((8 ∷ []) ∷ (1 ∷ 2 ∷ 4 ∷ 0 ∷ 6 ∷ 8 ∷ []) ∷ (2 ∷ []) ∷ [])
unfolding front_of front_at turned index_of wire_index_of closed_by joined_at joined_to connected_at connected
middle_replaced = refl
