use Rattle.std.proofs.Common.{arith, ap, length}
use mathlib.Core.Logic.{inl}
use Rattle.compress.proofs.Wires.{wire_count}
use Rattle.cutting.proofs.mending.Wires.{length_numbers}
use Rattle.cutting.proofs.mending.Wiring.{wiring_start, mendable, place_for, lies, wire_room, wire_small, wiring_turn, wiring_done}
use Rattle.cutting.proofs.mending.replace_wires.Goals as goal

pub loop-w-init : goal.loop-w-init
loop-w-init g c =
    let e = c.enumerate-w-items.ensures in
    let w = c.args.wires.now in
    rw (c.into_iter-w-iterator.ensures.into_iter_gives, e.source, e.count) (
      (tt, tt, inl (omega (arith, ap length c.each.ensures, wire_count w.uses.now w.lengths.now w.count c.requires.wires_le, c.requires.places))),
      tt,
      wiring_start _ _ _ _ _ _ _ c.requires c.each.ensures,
    )

pub offset_bounds-out-at : goal.offset_bounds-out-at
offset_bounds-out-at g c = omega (arith, lies _ _ _ _ _ _ _ _ _ _ _ c.loop-w.invariant.2 c.in-Some.ensures.steps.0)

pub slice_bounds-replace_edges-count : goal.slice_bounds-replace_edges-count
slice_bounds-replace_edges-count g c = lies _ _ _ _ _ _ _ _ _ _ _ c.loop-w.invariant.2 c.in-Some.ensures.steps.0

pub replace_edges-n-requires-clause-wire_in_bounds : goal.replace_edges-n-requires-clause-wire_in_bounds
replace_edges-n-requires-clause-wire_in_bounds g c = wire_room _ _ _ _ _ _ _ _ _ _ _ c.loop-w.invariant.2 c.in-Some.ensures.steps.0

pub replace_edges-n-requires-clause-by_index : goal.replace_edges-n-requires-clause-by_index
replace_edges-n-requires-clause-by_index g c =
    rw (length_numbers g.A.EdgeNumber.number c.args.added.now) at (mendable _ _ _ _ _ _ _ _ _ _ _ c.loop-w.invariant.2 c.in-Some.ensures.steps.0).1

pub overflow_cast-out_lengths : goal.overflow_cast-out_lengths
overflow_cast-out_lengths g c =
    let m = mendable _ _ _ _ _ _ _ _ _ _ _ c.loop-w.invariant.2 c.in-Some.ensures.steps.0 in
    omega (arith, m.0, wire_small _ _ _ _ _ _ _ _ _ _ _ c.loop-w.invariant.2 c.in-Some.ensures.steps.0 _ c.replace_edges-n.ensures.value)

pub bounds-out_lengths-w : goal.bounds-out_lengths-w
bounds-out_lengths-w g c =
    let s = c.in-Some.ensures.steps in
    omega (arith, s.1, place_for _ _ _ _ _ _ _ _ _ _ _ c.loop-w.invariant.2 s.0)

pub loop-w-preserved : goal.loop-w-preserved
loop-w-preserved g c =
    let s = c.in-Some.ensures.steps in
    let p = c.in-Some.ensures.goes.on c.loop-w.invariant.1 in
    let n = c.replace_edges-n in
    (p.0, p.1, rw (s.1, s.2) (wiring_turn _ _ _ _ _ _ _ _ _ _ _ c.loop-w.invariant.2 s.0 _ _ n.auto.out n.ensures.value n.ensures.out_after))

pub returns : goal.returns
returns g c = wiring_done _ _ _ _ _ _ _ _ _ c.loop-w.invariant.2 c.in-None.ensures.steps.0.0
