use mathlib.Core.Path.{ap, refl, ◌∙◌}
use native.Mathlib.Omega.{arith}
use Rattle.compress.proofs.Refused.{exit_is}
use Rattle.compress.specs.Said.{result, none}
use Rattle.join.specs.joined.Outcome.{left_by}
use Rattle.join.proofs.joined.Joining.{joined_no_place, joined_no_wire, wire_found, part_within, laying_asks, call_leaves}
use Rattle.join.proofs.joined.join_turned.Goals as goal

pub returns-in_default-clause-outcome : goal.returns-in_default-clause-outcome
returns-in_default-clause-outcome c = ap (left_by c.args.wires.now) (joined_no_place _ _ _ _ _ _ c.in_default.ensures)

pub returns-in_default-find_wire-clause-outcome : goal.returns-in_default-find_wire-clause-outcome
returns-in_default-find_wire-clause-outcome c =
    let v = c.view-lent.ensures in
    let q = rw (v.uses_value, v.lengths_value, v.count_value) at c.in_default-find_wire.ensures in
    ap (left_by c.args.wires.now) (joined_no_wire _ _ _ _ _ _ _ c.in-Some.ensures q)

pub place-requires : goal.place-requires
place-requires c =
    let v = c.view-lent.ensures in
    let J = c.requires.joinable in
    let w = wire_found J c.args.joint.now.v0 (rw (v.uses_value, v.lengths_value, v.count_value) at c.in-Some-find_wire.ensures) in
    rw (v.lengths_value, v.count_value) (omega (arith, w), omega (arith, J.lies.wires), J.lies.lengths)

pub offset_bounds-lent-place : goal.offset_bounds-lent-place
offset_bounds-lent-place c =
    let v = c.view-lent.ensures in
    let J = c.requires.joinable in
    let W = rw (v.uses_value, v.lengths_value, v.count_value) at c.in-Some-find_wire.ensures in
    let from = rw v.lengths_value at c.place.ensures.start in
    omega (arith, part_within J c.args.joint.now.v0 W from, J.lies.few)

pub slice_bounds-wire-end : goal.slice_bounds-wire-end
slice_bounds-wire-end c =
    let v = c.view-lent.ensures in
    let J = c.requires.joinable in
    let W = rw (v.uses_value, v.lengths_value, v.count_value) at c.in-Some-find_wire.ensures in
    let from = rw v.lengths_value at c.place.ensures.start in
    let p = part_within J c.args.joint.now.v0 W from in
    rw (c.place.ensures.end, v.uses_value, v.lengths_value) (omega (arith, p, J.lies.uses))

pub lay_joined-requires : goal.lay_joined-requires
lay_joined-requires c =
    let v = c.view-lent.ensures in
    let J = c.requires.joinable in
    let W = rw (v.uses_value, v.lengths_value, v.count_value) at c.in-Some-find_wire.ensures in
    let from = rw v.lengths_value at c.place.ensures.start in
    rw (c.place.ensures.end, v.uses_value, v.lengths_value)
    record { layable = laying_asks J c.args.joint.now.v0 W from c.args.first.now _ refl refl }

pub returns-in_default-lay_joined-clause-outcome : goal.returns-in_default-lay_joined-clause-outcome
returns-in_default-lay_joined-clause-outcome c =
    let v = c.view-lent.ensures in
    let W = rw (v.uses_value, v.lengths_value, v.count_value) at c.in-Some-find_wire.ensures in
    let from = rw v.lengths_value at c.place.ensures.start in
    let laid = rw (c.place.ensures.end, v.uses_value, v.lengths_value) at c.in_default-lay_joined.ensures.out_after in
    call_leaves c.requires.joinable c.args.joint.now.v0 W from c.args.first.now.by c.args.joint.now.v1 c.in-Some.ensures none laid

pub replace_wire-requires-clause-w_in_bounds : goal.replace_wire-requires-clause-w_in_bounds
replace_wire-requires-clause-w_in_bounds c =
    let v = c.view-lent.ensures in
    wire_found c.requires.joinable c.args.joint.now.v0 (rw (v.uses_value, v.lengths_value, v.count_value) at c.in-Some-find_wire.ensures)

pub returns-in_err-count-clause-outcome : goal.returns-in_err-count-clause-outcome
returns-in_err-count-clause-outcome c =
    let v = c.view-lent.ensures in
    let W = rw (v.uses_value, v.lengths_value, v.count_value) at c.in-Some-find_wire.ensures in
    let from = rw v.lengths_value at c.place.ensures.start in
    let laid = rw (c.place.ensures.end, v.uses_value, v.lengths_value) at c.in-Some-lay_joined.ensures.out_after in
    rw (exit_is _ _ c.from_residual.ensures.1)
    (c.in_err-count.ensures.stored ∙ call_leaves c.requires.joinable c.args.joint.now.v0 W from c.args.first.now.by c.args.joint.now.v1 c.in-Some.ensures (result _) laid)

pub returns-clause-outcome : goal.returns-clause-outcome
returns-clause-outcome c =
    let v = c.view-lent.ensures in
    let W = rw (v.uses_value, v.lengths_value, v.count_value) at c.in-Some-find_wire.ensures in
    let from = rw v.lengths_value at c.place.ensures.start in
    let laid = rw (c.place.ensures.end, v.uses_value, v.lengths_value) at c.in-Some-lay_joined.ensures.out_after in
    c.in_ok-count.ensures.stored ∙ call_leaves c.requires.joinable c.args.joint.now.v0 W from c.args.first.now.by c.args.joint.now.v1 c.in-Some.ensures (result _) laid
