use Rattle.std.proofs.Common.{arith, ap, length}
use mathlib.Core.Logic.{inl}
use Rattle.pieces.proofs.Held.{held_count, held_places, held_uses, held_small}
use Rattle.pieces.proofs.Lengths.{counted_start, counted_turn, counted_done, wire_few, wire_within, place_for}
use Rattle.pieces.proofs.mended_lengths.Goals as goal

pub loop-w-init : goal.loop-w-init
loop-w-init c =
    let e = c.enumerate-w-items.ensures in
    let w = c.args.wires.now in
    rw (c.into_iter-w-iterator.ensures.into_iter_gives, e.source, e.count) (
      (tt, tt, inl (omega (arith, ap length c.each.ensures, held_places _ _ _ _ c.requires.wires_value))),
      tt,
      counted_start _ _ _ _ c.each.ensures (held_uses _ _ _ _ c.requires.wires_value),
    )

pub mended_length-size-requires : goal.mended_length-size-requires
mended_length-size-requires c = (wire_few _ _ _ _ _ _ _ _ _ c.loop-w.invariant.2 c.in-Some.ensures.steps.0, c.requires.few)

pub overflow_cast-lengths : goal.overflow_cast-lengths
overflow_cast-lengths c =
    omega (arith, c.mended_length-size.ensures, wire_within _ _ _ _ _ _ _ _ _ c.loop-w.invariant.2 c.in-Some.ensures.steps.0, held_small _ _ _ _ c.requires.wires_value c.args.p.edge c.args.p.first _ c.requires.few.1)

pub offset_bounds-lengths-w : goal.offset_bounds-lengths-w
offset_bounds-lengths-w c =
    let s = c.in-Some.ensures.steps in
    omega (arith, s.1, place_for _ _ _ _ _ _ _ _ _ c.loop-w.invariant.2 s.0 (rw c.requires.room (held_places _ _ _ _ c.requires.wires_value)), c.loop-w.invariant.2.same, c.requires.room)

pub bounds-lengths-w : goal.bounds-lengths-w
bounds-lengths-w c =
    let s = c.in-Some.ensures.steps in
    omega (arith, s.1, place_for _ _ _ _ _ _ _ _ _ c.loop-w.invariant.2 s.0 (rw c.requires.room (held_places _ _ _ _ c.requires.wires_value)))

pub overflow_add-n : goal.overflow_add-n
overflow_add-n c =
    omega (arith, c.mended_length-size.ensures, wire_within _ _ _ _ _ _ _ _ _ c.loop-w.invariant.2 c.in-Some.ensures.steps.0, held_small _ _ _ _ c.requires.wires_value c.args.p.edge c.args.p.first _ c.requires.few.1)

pub loop-w-preserved : goal.loop-w-preserved
loop-w-preserved c =
    let s = c.in-Some.ensures.steps in
    let p = c.in-Some.ensures.goes.on c.loop-w.invariant.1 in
    (p.0, p.1, rw (s.1, s.2) (counted_turn _ _ _ _ _ _ _ _ _ c.loop-w.invariant.2 s.0 (rw c.requires.room (held_places _ _ _ _ c.requires.wires_value)) _ c.mended_length-size.ensures))

pub returns-clause-value : goal.returns-clause-value
returns-clause-value c = (counted_done _ _ _ _ _ _ _ c.loop-w.invariant.2 c.in-None.ensures.steps.0.0).0

pub returns-clause-lengths_after : goal.returns-clause-lengths_after
returns-clause-lengths_after c =
    rw (held_count _ _ _ _ c.requires.wires_value) at (counted_done _ _ _ _ _ _ _ c.loop-w.invariant.2 c.in-None.ensures.steps.0.0).1
