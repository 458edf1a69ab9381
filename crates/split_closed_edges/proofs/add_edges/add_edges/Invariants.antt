use Rattle.rows.specs.Places.{SameTable}
use Rattle.cutting.specs.parameter.Eighths.{parameter_of}
use Rattle.split_closed_edges.proofs.add_edges.Adding.{Adding}
use Rattle.split_closed_edges.proofs.add_edges.add_edges.Given as goal

abbrev pub invariant-loop-i : goal.invariant-loop-i
invariant-loop-i l = record {
  adding : Adding (parameter_of l.k) l.initial.vertices.count l.initial.edges.count
      l.initial.vertices.numbers.now l.initial.vertices.floats.now l.initial.edges.numbers.now l.initial.edges.floats.now
      l.vertices.numbers.now l.vertices.floats.now l.edges.numbers.now l.edges.floats.now l.i l.n l.m;
  vertices : SameTable l.initial.vertices l.vertices;
  edges : SameTable l.initial.edges l.edges;
}
