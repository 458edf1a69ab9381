use Rattle.std.proofs.Common.{arith, sym}
use Rattle.compress.proofs.Refused.{exit_is}
use Rattle.split.proofs.split_causes.Accepted.{input_accepted, cause_input, cause_room, cause_odd, cause_repeat}
use Rattle.split.proofs.split_causes.split_cause.Goals as goal

pub returns-in_err-split_input_cause : goal.returns-in_err-split_input_cause
returns-in_err-split_input_cause c = λ s.
    rw (exit_is _ _ c.from_residual.ensures.1) (cause_input _ _ (c.in_err-split_input_cause.ensures _ _ s))

pub total_uses-requires : goal.total_uses-requires
total_uses-requires c =
    let A = input_accepted _ (sym (c.in_ok-split_input_cause.ensures c.args.uses.now c.args.lengths.now 0)) in
    (omega (arith, A.wires), A.rebuilt_lengths)

pub overflow_add-n : goal.overflow_add-n
overflow_add-n c =
    let A = input_accepted _ (sym (c.in_ok-split_input_cause.ensures c.args.uses.now c.args.lengths.now 0)) in
    omega (arith, A.few, A.points_lent, c.total_uses.ensures)

pub overflow_add-edges : goal.overflow_add-edges
overflow_add-edges c =
    let A = input_accepted _ (sym (c.in_ok-split_input_cause.ensures c.args.uses.now c.args.lengths.now 0)) in
    omega (arith, A.edges.below, A.points_lent)

pub returns-in_err-room_cause : goal.returns-in_err-room_cause
returns-in_err-room_cause c = λ s.
    let r = c.from_residual-in_err-room_cause in
    rw (exit_is _ _ r.ensures.1) (cause_room _ (c.in_ok-split_input_cause.ensures c.args.uses.now c.args.lengths.now s) _ (rw (← c.total_uses.ensures) c.in_err-room_cause.ensures))

pub returns-in_err-odd_cause : goal.returns-in_err-odd_cause
returns-in_err-odd_cause c = λ s.
    let r = c.from_residual-in_err-odd_cause in
    rw (exit_is _ _ r.ensures.1) (cause_odd _ (c.in_ok-split_input_cause.ensures c.args.uses.now c.args.lengths.now s) (rw (← c.total_uses.ensures) c.in_ok-room_cause.ensures) _ c.in_err-odd_cause.ensures)

pub repeat_cause-requires : goal.repeat_cause-requires
repeat_cause-requires c =
    let A = input_accepted _ (sym (c.in_ok-split_input_cause.ensures c.args.uses.now c.args.lengths.now 0)) in
    record { lent = A.stops_lent; known = A.stops_known; few = A.vertices }

pub returns : goal.returns
returns c = λ s.
    cause_repeat _ (c.in_ok-split_input_cause.ensures c.args.uses.now c.args.lengths.now s) (rw (← c.total_uses.ensures) c.in_ok-room_cause.ensures) c.in_ok-odd_cause.ensures c.repeat_cause.ensures
