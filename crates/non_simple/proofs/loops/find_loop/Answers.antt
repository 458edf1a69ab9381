use Rattle.std.proofs.Common.{◌≡◌, ◌≤◌, ◌+◌, ◌∷◌, [], ◌++◌, length, arith}
use Rattle.std.proofs.lemmas.List.{length_push}
use Rattle.std.proofs.lemmas.Iterator.{YieldsList-from_slice}
use Rattle.std.proofs.lemmas.Iterator.Adapters.{YieldsList-from_skip}
use Rattle.std.proofs.lemmas.Iterator.Consumers.{YieldsList-from_enumerate, YieldsList-turn, YieldsList-end}
use Rattle.non_simple.proofs.loops.Places.{numbered_item, numbered_length}
use Rattle.non_simple.proofs.loops.Search.{searching_found, table_found, searching_turn, searching_done, table_done}
use Rattle.non_simple.proofs.loops.find_loop.Goals as goal

pub returns-in-Some-visit-clause-result_value : goal.returns-in-Some-visit-clause-result_value
returns-in-Some-visit-clause-result_value c =
    let road = YieldsList-from_skip c.args.from (YieldsList-from_enumerate (YieldsList-from_slice c.args.wire.now cc) cc) cc in
    let l = c.loop-later in
    let n = numbered_item _ _ _ _ (YieldsList-turn road l.yielded _ l.yielded_by _ _ (c.in-Some.later, c.in-Some.u) c.in-Some.is c.next.ensures.steps) in
    rw n.place_is (searching_found _ _ _ _ _ l.invariant n.inside _ (rw n.use_is at c.in-Some-visit.ensures.held))

pub returns-in-Some-visit-clause-places_after : goal.returns-in-Some-visit-clause-places_after
returns-in-Some-visit-clause-places_after c =
    let road = YieldsList-from_skip c.args.from (YieldsList-from_enumerate (YieldsList-from_slice c.args.wire.now cc) cc) cc in
    let l = c.loop-later in
    let n = numbered_item _ _ _ _ (YieldsList-turn road l.yielded _ l.yielded_by _ _ (c.in-Some.later, c.in-Some.u) c.in-Some.is c.next.ensures.steps) in
    let v = c.in-Some-visit.ensures in
    table_found _ _ _ _ _ l.invariant n.inside _ _ (rw (n.use_is, n.place_is) at v.places_after) (rw n.use_is at v.held)

pub loop-later-preserved : goal.loop-later-preserved
loop-later-preserved c =
    let road = YieldsList-from_skip c.args.from (YieldsList-from_enumerate (YieldsList-from_slice c.args.wire.now cc) cc) cc in
    let l = c.loop-later in
    let n = numbered_item _ _ _ _ (YieldsList-turn road l.yielded _ l.yielded_by _ _ (c.in-Some.later, c.in-Some.u) c.in-Some.is c.next.ensures.steps) in
    let v = c.in_default.ensures in
    let e : c.args.from + length (l.yielded ++ ((c.in-Some.later, c.in-Some.u) ∷ [])) ≡ c.args.from + length l.yielded + 1 = omega (arith, length_push l.yielded (c.in-Some.later, c.in-Some.u)) in
    rw e (searching_turn _ _ _ _ _ l.invariant n.inside _ (rw (n.use_is, n.place_is) at v.places_after) (rw n.use_is at v.held))

pub returns-clause-result_value : goal.returns-clause-result_value
returns-clause-result_value c =
    let road = YieldsList-from_skip c.args.from (YieldsList-from_enumerate (YieldsList-from_slice c.args.wire.now cc) cc) cc in
    let l = c.loop-later in
    let past : length c.args.wire.now ≤ c.args.from + length l.yielded = omega (arith, (YieldsList-end road l.yielded _ l.yielded_by _ _ c.in-None.is c.next.ensures.steps).1, numbered_length c.args.wire.now c.args.from) in
    searching_done _ _ _ _ _ l.invariant past

pub returns-clause-places_after : goal.returns-clause-places_after
returns-clause-places_after c =
    let road = YieldsList-from_skip c.args.from (YieldsList-from_enumerate (YieldsList-from_slice c.args.wire.now cc) cc) cc in
    let l = c.loop-later in
    let past : length c.args.wire.now ≤ c.args.from + length l.yielded = omega (arith, (YieldsList-end road l.yielded _ l.yielded_by _ _ c.in-None.is c.next.ensures.steps).1, numbered_length c.args.wire.now c.args.from) in
    table_done _ _ _ _ _ l.invariant past
