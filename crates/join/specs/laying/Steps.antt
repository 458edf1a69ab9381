-- What the steps that lay the joined wire ask and leave. Definitions only.
use Rattle.std.specs.Prelude.{List, ℕ, ◌+◌, ◌*◌, ◌/◌, ◌≤◌, ◌<◌, Option, Some, None, length, get_or, take, Float}
use Rattle.compress.specs.Said.{Said, result, none}
use Rattle.compress.specs.Wires.{total}
use Rattle.compress.specs.Rows.{numbers_per_edge, floats_per_edge}
use Rattle.join.specs.declared.laying.turned.TurnedWire.{TurnedWire}

-- every use of a wire is of an edge whose row was lent
abbrev pub Readable : List ℕ → List Float → List ℕ → Type 0
Readable en ef wire = (k : ℕ) → k < length wire → (get_or wire k 0 / 2 * numbers_per_edge + numbers_per_edge ≤ length en) × (get_or wire k 0 / 2 * floats_per_edge + floats_per_edge ≤ length ef)

-- n new wires lie in their two slices
pub record Lying (us ls : List ℕ) (n : ℕ) : Type 0 where
  pub wires : n ≤ 62
  pub lengths : n ≤ length ls
  pub few : total (take n ls) ≤ 1024
  pub uses : total (take n ls) ≤ length us

-- two open wires and a new one, of which the joined wire is laid
pub record Layable (en : List ℕ) (ef : List Float) (first second : TurnedWire) (wire : List ℕ) : Type 0 where
  pub few : length first.wire.now + length wire + length second.wire.now ≤ 1024
  pub first_rows : Readable en ef first.wire.now
  pub wire_rows : Readable en ef wire

-- the answer of a step that lays a wire into the front of a buffer: the length of the wire, where there is one
abbrev pub laid : Option ℕ → List ℕ → Said (List ℕ)
laid (Some r) out = result (take r out)
laid None out = none

-- how many uses it laid
abbrev pub laid_size : Option ℕ → ℕ
laid_size (Some r) = r
laid_size None = 0
