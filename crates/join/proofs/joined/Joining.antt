-- The join with a new wire, from what its steps gave.
-- Assumes nothing.
use mathlib.Core.Path.{◌≡◌, ap}
use mathlib.Core.List.{List, [], ◌++◌}
use Prim.Native.Nat.{ℕ, ◌+◌, ◌-◌, ◌≤◌, ◌<◌}
use native.Mathlib.Omega.{arith}
use lib.ListN.{length, get_or, set, take, drop}
use Rattle.compress.specs.declared.Edge.{Edge}
use Rattle.compress.specs.Rows.{edge_at}
use Rattle.compress.specs.Said.{Said, result, none, on_result}
use Rattle.compress.specs.Wires.{total}
use Rattle.compress.proofs.Wires.{part_size, wire_count}
use Rattle.rows.specs.Held.{wires_held}
use Rattle.rows.specs.declared.tables.Table.{Table}
use Rattle.rows.specs.declared.lent.WiresMut.{WiresMut}
use Rattle.rows.specs.wires.Turn.{turned}
use Rattle.join.specs.laying.Places.{index_of, wire_index_of, place_in, holder_in, closed_by}
use Rattle.join.specs.laying.Steps.{Layable}
use Rattle.join.specs.declared.laying.turned.TurnedWire.{TurnedWire}
use Rattle.join.proofs.laying.Places.{part_rows, found_is}
use Rattle.join.specs.joined.Joined.{joined_at, joined_to}
use Rattle.join.specs.joined.Outcome.{left_by}
use Rattle.join.specs.joined.Steps.{Joinable}
use Rattle.join.proofs.joined.Replacing.{wire_there, wire_within}

-- ---- `joined_to`
module _ (es : ℕ → Edge) (v0 v1 : ℕ) (first second : List ℕ) (ws : List (List ℕ)) where
  -- v1 is not found in the second open wire
  pub joined_no_place : none ≡ place_in es v1 second → none ≡ joined_to es v0 v1 first second ws
  unfolding joined_to
  joined_no_place q = rw (← q)

  -- it stands at the place j
  module _ (j : ℕ) (ej : result j ≡ place_in es v1 second) where
    pub joined_no_wire : none ≡ holder_in es v0 ws → none ≡ joined_to es v0 v1 first second ws
    unfolding joined_to
    joined_no_wire q = rw (← ej, ← q)

    -- w is the first new wire that holds v0, and s what is said of the joined wire
    pub joined_there : (w : ℕ) → result w ≡ holder_in es v0 ws → (s : Said (List ℕ))
        → s ≡ closed_by es v1 (first ++ turned (index_of es v0 (get_or ws w [])) (get_or ws w [])) (turned j second)
        → on_result s (λ joined. result (set ws w joined)) ≡ joined_to es v0 v1 first second ws
    unfolding joined_to joined_at
    joined_there w ew s e = rw (← ej, ← ew, ← e)

-- ---- the call
module _ {edges : Table Edge} {first second : List ℕ} {wires : WiresMut} (J : Joinable edges first second wires) where
  abbrev es : ℕ → Edge
  es = edge_at edges.numbers.now edges.floats.now

  abbrev us : List ℕ
  us = wires.uses.now

  abbrev ls : List ℕ
  ls = wires.lengths.now

  module _ {w : ℕ} (v0 : ℕ) (ew : result w ≡ holder_in es v0 (wires_held wires)) where
    pub wire_found : w < wires.count
    wire_found = omega (arith, wire_count us ls wires.count J.lies.lengths, found_is (length (wires_held wires)) (wire_index_of es v0 (wires_held wires)) ew)

    module _ {from : ℕ} (is : from ≡ total (take w ls)) where
      -- the wire w, as the code reads it in the buffers
      abbrev part : List ℕ
      part = take (from + get_or ls w 0 - from) (drop from us)

      pub part_within : from + get_or ls w 0 ≤ total (take wires.count ls)
      part_within = wire_within us ls wires.count w J.lies wire_found from is

      -- what laying asks of it
      pub laying_asks : (a b : TurnedWire) → a.wire.now ≡ first → b.wire.now ≡ second
          → Layable edges.numbers.now edges.floats.now a b part
      laying_asks a b ea eb =
          let l = part_size us from (from + get_or ls w 0) (omega (arith, part_within, J.lies.uses)) in
          record {
            few = rw (ea, eb) (omega (arith, l, part_within, J.few));
            first_rows = rw ea J.first_rows;
            wire_rows = part_rows edges.numbers.now edges.floats.now us _ from (from + get_or ls w 0) part_within J.lies.uses J.rows;
          }

      -- and what the call leaves, by what is said of the joined wire
      pub call_leaves : (i v1 : ℕ) {j : ℕ} → result j ≡ place_in es v1 second → (s : Said (List ℕ))
          → s ≡ closed_by es v1 (turned i first ++ turned (index_of es v0 part) part) (turned j second)
          → left_by wires (on_result s (λ joined. result (set (wires_held wires) w joined)))
          ≡ left_by wires (joined_to es v0 v1 (turned i first) second (wires_held wires))
      call_leaves i v1 {j} ej s e =
          ap (left_by wires)
          (joined_there es v0 v1 (turned i first) second (wires_held wires) j ej w ew s
          (rw (wire_there us ls wires.count w J.lies wire_found from is) at e))
