use Prim.Native.Nat.{◌/◌}
use Rattle.compress.specs.Rows.{edge_number_layout, edge_float_layout}
use Rattle.rows.specs.Places.{SameTable}
use Rattle.split.proofs.seams.Adding.{Adding}
use Rattle.split.proofs.seams.create_new_edges.Given as goal

abbrev pub invariant-loop-i : goal.invariant-loop-i
invariant-loop-i l =
    let d = l.divisor in
    let e = l.initial.edges in
    record {
      numbers : Adding d.vertices.now d.points.now l.surface (d.count / 2) edge_number_layout e.count e.numbers.now l.edges.numbers.now l.i;
      floats : Adding d.vertices.now d.points.now l.surface (d.count / 2) edge_float_layout e.count e.floats.now l.edges.floats.now l.i;
      same : SameTable e l.edges;
    }
