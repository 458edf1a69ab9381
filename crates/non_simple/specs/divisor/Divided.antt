-- One wire of document 01's "Non-simple wire", turned so that an edge number that stands twice stands at place 0: where it is divided.
-- Definitions only.
use Rattle.std.specs.Prelude.{List, ℕ, ◌+◌, ◌-◌, ◌/◌, Option, Some, None, ltb, length, get_or, take, drop}
use Rattle.compress.specs.declared.Edge.{Edge}
use Rattle.compress.specs.declared.Vertex.{Vertex}
use Rattle.compress.specs.Records.{pick, front_at}
use Rattle.compress.specs.Said.{Said, refused}
use Rattle.correction.specs.declared.nearest.Ends.{Ends}
use Rattle.correction.specs.nearest.Ends.{nearest_ends}
use Rattle.non_simple.specs.declared.loops.Pair.{Pair}
use Rattle.non_simple.specs.loops.Loop.{first_repeat}

-- "Places j0 / 2 and (i1 + j1) / 2, both rounded up"
abbrev pub half_up : ℕ → ℕ
half_up n = (n + 1) / 2

-- "find the next such pair (i1, j1); lacking one, take (j0, length)"
unfoldable pub second_pair : Option Pair → ℕ → ℕ → Pair
second_pair None j0 n = record { earlier = j0; later = n }
second_pair (Some p) j0 n = p

-- the uses from place a up to before place b
abbrev pub stretch : List ℕ → ℕ → ℕ → List ℕ
stretch w a b = take (b - a) (drop a w)

-- "Places .. are read": "the second place is past the end: the Rust panics, we refuse (8)". "the first one's front is v0 for nearest ends over
-- the stretches 1 to j0 - 1 and i1 + 1 to j1 - 1."
unfoldable pub divided_by : (ℕ → Edge) → (ℕ → Vertex) → List ℕ → ℕ → Pair → Said Ends
divided_by es vs w j0 s =
    pick (ltb (half_up (s.earlier + s.later)) (length w))
    (nearest_ends es vs (front_at es (get_or w (half_up j0) 0)) (stretch w 1 j0) (stretch w (s.earlier + 1) s.later))
    (refused 8)

-- the wire is turned so that the earlier place is 0, and the later one is j0. "From j0 + 1 on, with nothing remembered, .."
unfoldable pub turned_divisor : (ℕ → Edge) → (ℕ → Vertex) → List ℕ → ℕ → Said Ends
turned_divisor es vs w j0 = divided_by es vs w j0 (second_pair (first_repeat (j0 + 1) w) j0 (length w))
