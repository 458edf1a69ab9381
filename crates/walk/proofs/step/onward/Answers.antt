use Rattle.std.proofs.Common.{◌≡◌, ◌+◌, ◌∙◌, refl, sym, arith, get_or}
use Rattle.walk.proofs.lists.Entries.{place_some, place_none, is_none, is_held, list_ends}
use Rattle.walk.specs.step.Arrival.{one, many, first, second}
use Rattle.walk.proofs.step.onward.Goals as goal

pub returns-in_default : goal.returns-in_default
returns-in_default c =
    let h = list_ends _ _ _ _ c.list_of.ensures c.in_ok-list.ensures.ok_part c.in_ok-p.ensures.ok_part in
    let e = c.set_last.ensures in
    one _ h (place_none _ c.in_default.ensures) refl e.head_after e.next_same

pub returns-then-is_some : goal.returns-then-is_some
returns-then-is_some c =
    let h = list_ends _ _ _ _ c.list_of.ensures c.in_ok-list.ensures.ok_part c.in_ok-p.ensures.ok_part in
    many _ _ _ h (place_some _ _ c.in-Some.ensures) (is_held _ _ c.place_before-2.ensures c.if-is_some.ensures) refl refl refl

pub returns-then-takes_first : goal.returns-then-takes_first
returns-then-takes_first c =
    let h = list_ends _ _ _ _ c.list_of.ensures c.in_ok-list.ensures.ok_part c.in_ok-p.ensures.ok_part in
    first _ _ h (place_some _ _ c.in-Some.ensures) (is_none _ _ c.place_before-2.ensures c.if-is_some.ensures)
    (sym c.takes_first.ensures ∙ c.if-takes_first.true) refl c.make_first.ensures.head_same c.make_first.ensures.next_after

pub returns : goal.returns
returns c =
    let h = list_ends _ _ _ _ c.list_of.ensures c.in_ok-list.ensures.ok_part c.in_ok-p.ensures.ok_part in
    let p = place_some _ _ c.in-Some.ensures in
    let e = c.set_last-2.ensures in
    let m : c.in-Some.a + 2 ≡ get_or c.args.lists.now.next c.in_ok-p.p 0 + 1 = omega (arith, p) in
    second _ _ h p (is_none _ _ c.place_before-2.ensures c.if-is_some.ensures) (sym c.takes_first.ensures ∙ c.if-takes_first.false)
    refl (rw m at e.head_after) e.next_same
