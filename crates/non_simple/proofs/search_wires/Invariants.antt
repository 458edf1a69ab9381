use Rattle.rows.specs.Held.{vertices_in, edges_in}
use Rattle.non_simple.proofs.Scanning.{Scanning}
use Rattle.non_simple.proofs.search_wires.Given as goal

abbrev pub invariant-loop-wire : goal.invariant-loop-wire
invariant-loop-wire l =
    (goal.iterator-loop-wire).can_next l.wire-iterator × (goal.iterator-loop-wire).is_finite l.wire-iterator
    × Scanning (edges_in l.tables.edges) (vertices_in l.tables.vertices) l.tables.edges.count l.wires l.wire-iterator
