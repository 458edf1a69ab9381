use Rattle.std.proofs.Common.{arith}
use Rattle.compress.proofs.Refused.{exit_is}
use Rattle.split.proofs.Outcome.{checked, face_size, rebuilt_size, stops_size, lent_walkable, lent_room, call_told, call_refused}
use Rattle.split.proofs.split_boundaries_by_divisor.Goals as goal

pub returns-in_err-split_cause-clause-outcome : goal.returns-in_err-split_cause-clause-outcome
returns-in_err-split_cause-clause-outcome c =
    let v = c.view-lent.ensures in
    rw (exit_is _ _ c.from_residual.ensures.1) (call_refused _ _ (rw (v.numbers_value, v.floats_value, v.count_value) at (c.in_err-split_cause.ensures c.args.surface)))

pub total_uses-n-requires : goal.total_uses-n-requires
total_uses-n-requires c =
    let v = c.view-lent.ensures in
    let C = checked _ (rw (v.numbers_value, v.floats_value, v.count_value) at (c.in_ok-split_cause.ensures c.args.surface)) in
    (omega (arith, C.accepted.wires), C.accepted.face_lengths)

pub total_uses-m-requires : goal.total_uses-m-requires
total_uses-m-requires c =
    let v = c.view-lent.ensures in
    let C = checked _ (rw (v.numbers_value, v.floats_value, v.count_value) at (c.in_ok-split_cause.ensures c.args.surface)) in
    (omega (arith, C.accepted.wires), C.accepted.rebuilt_lengths)

pub slice_bounds-split_checked-end : goal.slice_bounds-split_checked-end
slice_bounds-split_checked-end c =
    let v = c.view-lent.ensures in
    let C = checked _ (rw (v.numbers_value, v.floats_value, v.count_value) at (c.in_ok-split_cause.ensures c.args.surface)) in
    face_size _ C c.total_uses-n.result c.total_uses-m.result c.total_uses-n.ensures c.total_uses-m.ensures

pub slice_bounds-split_checked-end-2 : goal.slice_bounds-split_checked-end-2
slice_bounds-split_checked-end-2 c =
    let v = c.view-lent.ensures in
    let C = checked _ (rw (v.numbers_value, v.floats_value, v.count_value) at (c.in_ok-split_cause.ensures c.args.surface)) in
    rebuilt_size _ C c.total_uses-n.result c.total_uses-m.result c.total_uses-n.ensures c.total_uses-m.ensures

pub slice_bounds-stops-end : goal.slice_bounds-stops-end
slice_bounds-stops-end c =
    let v = c.view-lent.ensures in
    let C = checked _ (rw (v.numbers_value, v.floats_value, v.count_value) at (c.in_ok-split_cause.ensures c.args.surface)) in
    stops_size _ C

pub split_checked-requires : goal.split_checked-requires
split_checked-requires c =
    let v = c.view-lent.ensures in
    let C = checked _ (rw (v.numbers_value, v.floats_value, v.count_value) at (c.in_ok-split_cause.ensures c.args.surface)) in
    record {
      walkable = lent_walkable _ C c.total_uses-n.result c.total_uses-m.result c.total_uses-n.ensures c.total_uses-m.ensures;
      roomy = lent_room _ C c.total_uses-n.result c.total_uses-m.result c.total_uses-n.ensures c.total_uses-m.ensures;
    }

pub returns : goal.returns
returns c =
    let v = c.view-lent.ensures in
    let z = rw (v.numbers_value, v.floats_value, v.count_value) at (c.in_ok-split_cause.ensures c.args.surface) in
    let t = call_told _ z c.total_uses-n.ensures c.total_uses-m.ensures c.split_checked.ensures.outcome in
    record { outcome = t.0; keeps_uses = t.1; same = c.split_checked.ensures.same }
