use mathlib.Core.Path.{sym, ◌∙◌}
use native.Mathlib.Omega.{arith}
use Rattle.compress.proofs.Room.{uses_room}
use Rattle.join.proofs.joined.Replacing.{bounds, stored_full, stored_done}
use Rattle.join.proofs.joined.replace_wire.Goals as goal

pub overflow_sub-rest : goal.overflow_sub-rest
overflow_sub-rest c =
    let v = c.view-lent.ensures in
    let r = c.requires in
    let from = rw v.lengths_value at c.place-place.ensures.start in
    let sum = rw (v.lengths_value, v.count_value) at c.total_uses.ensures in
    rw (c.place-place.ensures.end, v.lengths_value) (bounds _ _ _ _ r.lies r.w_in_bounds c.args.joined.now _ _ from sum).0

pub overflow_add-count : goal.overflow_add-count
overflow_add-count c =
    let v = c.view-lent.ensures in
    let r = c.requires in
    let from = rw v.lengths_value at c.place-place.ensures.start in
    let sum = rw (v.lengths_value, v.count_value) at c.total_uses.ensures in
    let b = bounds _ _ _ _ r.lies r.w_in_bounds c.args.joined.now _ _ from sum in
    omega (arith, b.0, b.1, r.joined_few)

pub overflow_add-count-2 : goal.overflow_add-count-2
overflow_add-count-2 c =
    let v = c.view-lent.ensures in
    let r = c.requires in
    let from = rw v.lengths_value at c.place-place.ensures.start in
    let sum = rw (v.lengths_value, v.count_value) at c.total_uses.ensures in
    let b = bounds _ _ _ _ r.lies r.w_in_bounds c.args.joined.now _ _ from sum in
    rw (c.place-place.ensures.end, v.lengths_value) (omega (arith, b.0, b.1, r.joined_few))

pub returns-then-not-uses_fit-clause-stored : goal.returns-then-not-uses_fit-clause-stored
returns-then-not-uses_fit-clause-stored c =
    let v = c.view-lent.ensures in
    let r = c.requires in
    let from = rw v.lengths_value at c.place-place.ensures.start in
    let sum = rw (v.lengths_value, v.count_value) at c.total_uses.ensures in
    stored_full _ _ _ _ r.lies r.w_in_bounds c.args.joined.now _ _ from sum (rw (v.uses_value, c.place-place.ensures.end, v.lengths_value) at (sym c.uses_fit.ensures ∙ c.if-not-uses_fit.true))

pub replace_uses-requires : goal.replace_uses-requires
replace_uses-requires c =
    let v = c.view-lent.ensures in
    let r = c.requires in
    let from = rw v.lengths_value at c.place-place.ensures.start in
    let sum = rw (v.lengths_value, v.count_value) at c.total_uses.ensures in
    let b = bounds _ _ _ _ r.lies r.w_in_bounds c.args.joined.now _ _ from sum in
    let u = uses_room _ _ (rw (v.uses_value, c.place-place.ensures.end, v.lengths_value) at (sym c.uses_fit.ensures ∙ c.if-not-uses_fit.false)) in
    record {
      in_order = rw c.place-place.ensures.end (omega arith);
      lent = rw (c.place-place.ensures.end, v.lengths_value) (omega (arith, b.0, b.2), omega (arith, u.1, b.0));
    }

pub returns-clause-stored : goal.returns-clause-stored
returns-clause-stored c =
    let v = c.view-lent.ensures in
    let r = c.requires in
    let from = rw v.lengths_value at c.place-place.ensures.start in
    let sum = rw (v.lengths_value, v.count_value) at c.total_uses.ensures in
    let fit = rw (v.uses_value, c.place-place.ensures.end, v.lengths_value) at (sym c.uses_fit.ensures ∙ c.if-not-uses_fit.false) in
    rw (c.place-place.ensures.end, v.lengths_value)
    (stored_done _ _ _ _ r.lies r.w_in_bounds c.args.joined.now _ _ from sum _ fit (rw (c.place-place.ensures.end, v.lengths_value) at c.replace_uses.ensures))
