use Prim.Native.Nat.{◌*◌}
use native.Mathlib.Omega.{arith}
use lib.ListN.{length-set}
use Rattle.compress.specs.Records.{kind_of, number_of, preparation_number}
use Rattle.compress.specs.Layout.{put}
use Rattle.compress.specs.Rows.{numbers_per_edge, edge_number_layout, edge_float_layout}
use Rattle.compress.proofs.Cells.{run5}
use Rattle.rows.proofs.put_edge.Goals as goal

pub bounds-numbers-a-2 : goal.bounds-numbers-a-2
bounds-numbers-a-2 c = simp length-set (omega arith)

pub bounds-numbers-a-3 : goal.bounds-numbers-a-3
bounds-numbers-a-3 c = simp length-set (omega arith)

pub bounds-numbers-a-4 : goal.bounds-numbers-a-4
bounds-numbers-a-4 c = simp length-set (omega arith)

pub returns-clause-numbers_after : goal.returns-clause-numbers_after
unfolding put edge_number_layout
returns-clause-numbers_after c =
    let a = c.args in
    rw (c.kind_of.ensures, c.number_of.ensures, c.from.ensures)
    (run5 a.numbers.now (a.i * numbers_per_edge) a.e.front a.e.back (kind_of a.e.curve) (number_of a.e.curve) (preparation_number a.e.preparation))

pub returns-clause-floats_after : goal.returns-clause-floats_after
unfolding put edge_float_layout
returns-clause-floats_after c = c.put_curve.ensures
