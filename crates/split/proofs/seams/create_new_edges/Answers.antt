use Rattle.std.proofs.Common.{arith}
use Rattle.rows.proofs.Same.{same_table, same_table_then}
use Rattle.split.proofs.seams.create_new_edges.Goals as goal
use Rattle.split.proofs.seams.Adding.{adding_start, adding_more, adding_done}

pub loop-i-init : goal.loop-i-init
loop-i-init c = record { numbers = adding_start _ _ _ _ _ _ _; floats = adding_start _ _ _ _ _ _ _; same = same_table _ }

pub put-requires : goal.put-requires
put-requires c =
    let m = c.loop-i.invariant.same in
    let lt = c.loop-i-test.true in
    (omega (arith, lt, m.numbers_len, c.requires.numbers_room), omega (arith, lt, m.floats_len, c.requires.floats_room))

pub loop-i-preserved : goal.loop-i-preserved
loop-i-preserved c =
    let e = rw (c.stop_at-a.ensures, c.stop_at-b.ensures) at c.seam_of.ensures in
    let m = c.loop-i.invariant in
    let lt = c.loop-i-test.true in
    record {
      numbers = adding_more _ _ _ _ _ _ _ _ _ _ _ m.numbers lt e c.put.ensures.numbers_after;
      floats = adding_more _ _ _ _ _ _ _ _ _ _ _ m.floats lt e c.put.ensures.floats_after;
      same = same_table_then m.same c.put.ensures.same;
    }

pub returns-clause-edge_numbers_after : goal.returns-clause-edge_numbers_after
returns-clause-edge_numbers_after c = adding_done _ _ _ _ _ _ _ _ _ c.loop-i.invariant.numbers (omega arith)

pub returns-clause-edge_floats_after : goal.returns-clause-edge_floats_after
returns-clause-edge_floats_after c = adding_done _ _ _ _ _ _ _ _ _ c.loop-i.invariant.floats (omega arith)

pub returns-clause-same : goal.returns-clause-same
returns-clause-same c = c.loop-i.invariant.same
