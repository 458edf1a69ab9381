use Prim.Native.Nat.{◌≤◌}
use native.Mathlib.Omega.{arith}
use lib.ListN.{length}
use Rattle.join.proofs.laying.Places.{found_is}
use Rattle.join.proofs.laying.Laying.{laid_turned, laid_rest, closed_none, closed_found}
use Rattle.join.proofs.laying.lay_second.Goals as goal

pub returns-in_err-by-clause-out_after : goal.returns-in_err-by-clause-out_after
returns-in_err-by-clause-out_after c = rw c.from_residual.ensures (closed_none _ _ _ _ c.in_err-by.ensures)

pub returns-clause-out_after : goal.returns-clause-out_after
returns-clause-out_after c =
    let k : c.in_ok-by.by ≤ length c.args.wire.now = omega (arith, found_is (length c.args.wire.now) _ c.in_ok-by.ensures) in
    closed_found _ _ _ _ c.in_ok-by.by _ _ c.in_ok-by.ensures
    (laid_turned c.in_ok-by.by c.args.wire.now c.args.second.now.by c.args.second.now.wire.now c.args.out.now _ _ k c.args.second.now.turn c.lay_turned.ensures c.lay_turned-2.ensures)

pub returns-clause-out_unchanged : goal.returns-clause-out_unchanged
returns-clause-out_unchanged c =
    let k : c.in_ok-by.by ≤ length c.args.wire.now = omega (arith, found_is (length c.args.wire.now) _ c.in_ok-by.ensures) in
    laid_rest c.in_ok-by.by c.args.wire.now c.args.second.now.by c.args.second.now.wire.now c.args.out.now _ _ k c.args.second.now.turn c.lay_turned.auto.out c.requires.room.0 c.lay_turned.ensures c.lay_turned-2.ensures
