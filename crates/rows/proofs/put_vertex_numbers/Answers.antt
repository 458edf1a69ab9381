use Prim.Native.Nat.{◌*◌}
use native.Mathlib.Omega.{arith}
use lib.ListN.{length-set}
use Rattle.compress.specs.Records.{kind_of, number_of}
use Rattle.compress.specs.Layout.{put}
use Rattle.compress.specs.Rows.{numbers_per_vertex, vertex_number_layout}
use Rattle.compress.proofs.Cells.{run1, run3}
use Rattle.rows.proofs.put_vertex_numbers.Goals as goal

pub bounds-numbers-a-in-Pending-2 : goal.bounds-numbers-a-in-Pending-2
bounds-numbers-a-in-Pending-2 c = simp length-set (omega arith)

pub bounds-numbers-a-in-Pending-3 : goal.bounds-numbers-a-in-Pending-3
bounds-numbers-a-in-Pending-3 c = simp length-set (omega arith)

pub returns-in-Given : goal.returns-in-Given
unfolding put vertex_number_layout
returns-in-Given c = rw c.in-Given.is (run1 c.args.numbers.now (c.args.i * numbers_per_vertex) 0)

pub returns-in-Pending : goal.returns-in-Pending
unfolding put vertex_number_layout
returns-in-Pending c =
    let k = c.in-Pending.curve in
    rw (c.in-Pending.is, c.kind_of.ensures, c.number_of.ensures)
    (run3 c.args.numbers.now (c.args.i * numbers_per_vertex) 1 (kind_of k) (number_of k))
