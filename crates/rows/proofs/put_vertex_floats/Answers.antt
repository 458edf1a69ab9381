use Prim.Native.Nat.{◌*◌}
use native.Mathlib.Omega.{arith}
use lib.ListN.{length-set}
use Rattle.compress.specs.Layout.{put}
use Rattle.compress.specs.Rows.{floats_per_vertex, vertex_float_layout}
use Rattle.compress.proofs.Cells.{run3}
use Rattle.compress.proofs.Rows.{pending_cells}
use Rattle.rows.proofs.put_vertex_floats.Goals as goal

pub bounds-floats-b-in-Given : goal.bounds-floats-b-in-Given
bounds-floats-b-in-Given c = simp length-set (omega arith)

pub bounds-floats-b-in-Given-2 : goal.bounds-floats-b-in-Given-2
bounds-floats-b-in-Given-2 c = simp length-set (omega arith)

pub returns-in-Given : goal.returns-in-Given
unfolding put vertex_float_layout
returns-in-Given c = rw (c.in-Given.is, run3)

pub returns-in-Pending : goal.returns-in-Pending
unfolding put vertex_float_layout
returns-in-Pending c =
    let v = c.in-Pending in
    rw v.is (pending_cells c.args.floats.now _ (c.args.i * floats_per_vertex) v.curve v.t c.put_curve.ensures)
