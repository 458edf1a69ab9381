use Rattle.compress.proofs.Refused.{exit_is}
use Rattle.non_simple.proofs.Scanning.{scanning_start, scanning_turn, scanning_found, scanning_refused, scanning_done}
use Rattle.non_simple.proofs.search_wires.Goals as goal

pub loop-wire-init : goal.loop-wire-init
loop-wire-init c = (tt, tt, scanning_start _ _ _ _ _ c.requires.wires_sound (rw c.into_iter-wire-iterator.ensures.into_iter_gives c.each-wire-items.ensures))

pub returns-in_err-ends : goal.returns-in_err-ends
returns-in_err-ends c =
    rw (exit_is _ _ c.from_residual.ensures.1) (scanning_refused _ _ _ _ _ c.next.new.self _ c.loop-wire.invariant.2 c.in-Some.ensures.steps _ c.in_err-ends.ensures)

pub returns-in-Some-2 : goal.returns-in-Some-2
returns-in-Some-2 c = scanning_found _ _ _ _ _ c.next.new.self _ c.loop-wire.invariant.2 c.in-Some.ensures.steps _ (rw c.in-Some-2.is at c.in_ok-ends.ensures)

pub loop-wire-preserved : goal.loop-wire-preserved
loop-wire-preserved c =
    let p = c.in-Some.ensures.goes.on c.loop-wire.invariant.1 in
    (p.0, p.1, scanning_turn _ _ _ _ _ c.next.new.self _ c.loop-wire.invariant.2 c.in-Some.ensures.steps (rw c.in_default.is at c.in_ok-ends.ensures))

pub returns : goal.returns
returns c = scanning_done _ _ _ _ _ c.loop-wire.invariant.2 c.in-None.ensures.steps.0
