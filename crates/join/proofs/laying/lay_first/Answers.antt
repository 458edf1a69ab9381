use mathlib.Core.Path.{◌≡◌, ◌∙◌}
use Prim.Native.Nat.{◌≤◌}
use native.Mathlib.Omega.{arith}
use lib.ListN.{length}
use Rattle.compress.specs.Rows.{edge_at}
use Rattle.join.specs.laying.Places.{index_of}
use Rattle.join.proofs.laying.Places.{index_le, place_or_end}
use Rattle.join.proofs.laying.Laying.{laid_turned}
use Rattle.join.proofs.laying.lay_first.Goals as goal

pub returns : goal.returns
returns c =
    let a = c.args in
    let es = edge_at a.edges.now.numbers.now a.edges.now.floats.now in
    let e : c.unwrap_or-by.result ≡ index_of es a.v0 a.wire.now = c.unwrap_or-by.ensures ∙ place_or_end es a.v0 a.wire.now _ c.find_index.ensures in
    let k : c.unwrap_or-by.result ≤ length a.wire.now = omega (arith, e, index_le es a.v0 a.wire.now) in
    rw (← e) (laid_turned a.first.now.by a.first.now.wire.now c.unwrap_or-by.result a.wire.now a.out.now _ _ a.first.now.turn k c.lay_turned.ensures c.lay_turned-2.ensures)
