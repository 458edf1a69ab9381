use Rattle.std.proofs.Common.{arith}
use Rattle.rows.proofs.Same.{same_table, same_table_then}
use Rattle.split_closed_edges.proofs.add_edges.Adding.{adding_start, place, adding_turn, adding_done}
use Rattle.split_closed_edges.proofs.add_edges.add_edges.Goals.{then-add_edge, else-add_edge}
use Rattle.split_closed_edges.proofs.add_edges.add_edges.Goals as goal

pub loop-i-init : goal.loop-i-init
loop-i-init c = record {
  adding = adding_start _ _ _ _ _ _ _ c.requires;
  vertices = same_table _;
  edges = same_table _;
}

pub add_edge-requires : goal.add_edge-requires
add_edge-requires c =
    let l = c.loop-i.invariant.adding in
    let t = c.loop-i-test.true in
    let a = c.requires in
    record {
      i_in_bounds = (omega (arith, t, l.same_en, a.edge_numbers), omega (arith, t, l.same_ef, a.edge_floats));
      place_for = place _ _ _ _ _ _ _ _ _ _ _ _ _ _ l t a;
    }

pub overflow_add-n : goal.overflow_add-n
overflow_add-n c = omega (arith, c.loop-i.invariant.adding.n_is, c.requires.below)

pub overflow_add-m : goal.overflow_add-m
overflow_add-m c = omega (arith, c.loop-i.invariant.adding.m_is, c.requires.edge_numbers)

pub loop-i-preserved : goal.loop-i-preserved
loop-i-preserved c =
    let l = c.loop-i.invariant in
    let s = c.add_edge.ensures in
    record {
      adding = adding_turn _ _ _ _ _ _ _ _ _ _ _ _ _ _ l.adding c.loop-i-test.true c.requires c.add_edge.result _ _ _ _ _ _
          s.value s.accepted s.vertex_numbers_after s.vertex_floats_after s.edge_numbers_after s.edge_floats_after s.same_vertices.numbers_len s.same_vertices.floats_len s.same_edges.numbers_len s.same_edges.floats_len
          (elim c.if-add_edge.branch [ then-add_edge w ↦ rw w.if-add_edge.true w.n-is | else-add_edge w ↦ rw w.if-add_edge.false w.n-is ])
          (elim c.if-add_edge.branch [ then-add_edge w ↦ rw w.if-add_edge.true w.m-is | else-add_edge w ↦ rw w.if-add_edge.false w.m-is ]);
      vertices = same_table_then l.vertices s.same_vertices;
      edges = same_table_then l.edges s.same_edges;
    }

pub returns : goal.returns
returns c = record {
  added = adding_done _ _ _ _ _ _ _ _ _ _ _ _ _ _ c.loop-i.invariant.adding c.loop-i-test.false;
  same_vertices = c.loop-i.invariant.vertices;
  same_edges = c.loop-i.invariant.edges;
}
