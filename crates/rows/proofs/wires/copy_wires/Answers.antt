use Rattle.std.proofs.Common.{arith}
use Rattle.rows.proofs.wires.Copying.{copied_start, copied_turn, copied_done, next_fits, part_fits, all_fit, all_are}
use Rattle.rows.proofs.wires.copy_wires.Goals as goal

pub loop-wire-init : goal.loop-wire-init
loop-wire-init c = (tt, tt, copied_start _ _ _ (rw c.into_iter-wire-iterator.ensures.into_iter_gives c.each-wire-items.ensures))

pub offset_bounds-out-at : goal.offset_bounds-out-at
offset_bounds-out-at c =
    let fit = all_fit c.args.made.now c.args.out.now c.requires.1 c.requires.2 in
    omega (arith, next_fits _ _ _ _ _ _ _ c.loop-wire.invariant.2 c.in-Some.ensures.steps fit)

pub copy-requires : goal.copy-requires
copy-requires c =
    let fit = all_fit c.args.made.now c.args.out.now c.requires.1 c.requires.2 in
    part_fits _ _ _ (next_fits _ _ _ _ _ _ _ c.loop-wire.invariant.2 c.in-Some.ensures.steps fit)

pub loop-wire-preserved : goal.loop-wire-preserved
loop-wire-preserved c =
    let fit = all_fit c.args.made.now c.args.out.now c.requires.1 c.requires.2 in
    (tt, tt, copied_turn _ _ _ _ _ _ _ c.loop-wire.invariant.2 c.in-Some.ensures.steps fit _ c.copy.ensures)

pub returns : goal.returns
returns c =
    let fit = all_fit c.args.made.now c.args.out.now c.requires.1 c.requires.2 in
    all_are c.args.made.now _ _ c.requires.1 (copied_done _ _ _ _ _ c.loop-wire.invariant.2 c.in-None.ensures.steps.0 fit)
