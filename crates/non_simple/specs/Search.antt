-- Non-simple wire (`non_simple_wire_divisor`, `find_non_simple_wire_divisor`). Edges and vertices are given by number. Definitions only.
use Rattle.std.specs.Prelude.{List, [], ◌∷◌, ℕ, ◌-◌, Option, Some, None, take}
use Rattle.compress.specs.declared.Edge.{Edge}
use Rattle.compress.specs.declared.Vertex.{Vertex}
use Rattle.compress.specs.Rows.{edge_at, vertex_at}
use Rattle.compress.specs.Said.{Said, result, none, refused, refused_or}
use Rattle.compress.specs.Shell.{Lent}
use Rattle.compress.specs.Wires.{wires_of}
use Rattle.checks.specs.Causes.{lower_of, wires_cause}
use Rattle.rows.specs.wires.Turn.{turned}
use Rattle.correction.specs.declared.nearest.Ends.{Ends}
use Rattle.checks.specs.points.Tables.{tables_cause}
use Rattle.non_simple.specs.declared.loops.Pair.{Pair}
use Rattle.non_simple.specs.loops.Loop.{first_repeat}
use Rattle.non_simple.specs.divisor.Divided.{turned_divisor}

-- "find the first position whose edge number stood before, turn the wire so that the earlier place is 0, and call the later place j0"
abbrev pub divisor_from : (ℕ → Edge) → (ℕ → Vertex) → List ℕ → Option Pair → Said Ends
divisor_from es vs w None = none
divisor_from es vs w (Some p) = turned_divisor es vs (turned p.earlier w) (p.later - p.earlier)

unfoldable pub wire_divisor : (ℕ → Edge) → (ℕ → Vertex) → List ℕ → Said Ends
wire_divisor es vs w = divisor_from es vs w (first_repeat 0 w)

-- `"None" moves on to the next wire.`
abbrev pub or_next : Said Ends → Said Ends → Said Ends
or_next (result d) next = result d
or_next none next = next
or_next (refused n) next = refused n

-- "Per wire, in order"
unfoldable pub find_divisor : (ℕ → Edge) → (ℕ → Vertex) → List (List ℕ) → Said Ends
find_divisor es vs [] = none
find_divisor es vs (w ∷ ws) = or_next (wire_divisor es vs w) (find_divisor es vs ws)

-- ---- the call
unfoldable pub search_cause : Lent → ℕ
search_cause l =
    lower_of (tables_cause l.slices.vn l.slices.vf l.slices.en l.slices.ef l.vertices l.edges) (wires_cause l.edges l.slices.us l.slices.ls l.wires)

-- the wires that lie in the slices, searched in order
abbrev pub divisor_in : Lent → Said Ends
divisor_in l = find_divisor (edge_at l.slices.en l.slices.ef) (vertex_at l.slices.vn l.slices.vf) (wires_of l.slices.us (take l.wires l.slices.ls))

unfoldable pub find_non_simple : Lent → Said Ends
find_non_simple l = refused_or (search_cause l) (divisor_in l)
