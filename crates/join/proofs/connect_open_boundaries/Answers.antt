use mathlib.Core.Path.{sym}
use Rattle.compress.proofs.Refused.{exit_is}
use Rattle.join.proofs.Accepted.{join_accepted, join_refused, join_told}
use Rattle.join.proofs.connect_open_boundaries.Goals as goal

pub returns-in_err-join_cause-clause-outcome : goal.returns-in_err-join_cause-clause-outcome
returns-in_err-join_cause-clause-outcome c =
    let v = c.view.ensures in
    let q = rw (v.uses_value, v.lengths_value, v.count_value) at c.in_err-join_cause.ensures in
    rw (exit_is _ _ c.from_residual.ensures.1) (join_refused c.args.edges.now c.args.first.now c.args.second.now c.args.wires.now _ _ _ _ q)

pub slice_bounds-connect_checked-end : goal.slice_bounds-connect_checked-end
slice_bounds-connect_checked-end c =
    let v = c.view.ensures in
    let q = rw (v.uses_value, v.lengths_value, v.count_value) at c.in_ok-join_cause.ensures in
    sym (join_accepted c.args.edges.now c.args.first.now c.args.second.now c.args.wires.now _ _ _ (sym q)).first_size

pub slice_bounds-connect_checked-end-2 : goal.slice_bounds-connect_checked-end-2
slice_bounds-connect_checked-end-2 c =
    let v = c.view.ensures in
    let q = rw (v.uses_value, v.lengths_value, v.count_value) at c.in_ok-join_cause.ensures in
    sym (join_accepted c.args.edges.now c.args.first.now c.args.second.now c.args.wires.now _ _ _ (sym q)).second_size

pub connect_checked-requires-clause-joinable : goal.connect_checked-requires-clause-joinable
connect_checked-requires-clause-joinable c =
    let v = c.view.ensures in
    let q = rw (v.uses_value, v.lengths_value, v.count_value) at c.in_ok-join_cause.ensures in
    (join_accepted c.args.edges.now c.args.first.now c.args.second.now c.args.wires.now _ _ _ (sym q)).joinable

pub connect_checked-requires-clause-not_empty : goal.connect_checked-requires-clause-not_empty
connect_checked-requires-clause-not_empty c =
    let v = c.view.ensures in
    let q = rw (v.uses_value, v.lengths_value, v.count_value) at c.in_ok-join_cause.ensures in
    let j = join_accepted c.args.edges.now c.args.first.now c.args.second.now c.args.wires.now _ _ _ (sym q) in
    (j.first_some, j.second_some)

pub returns-clause-outcome : goal.returns-clause-outcome
returns-clause-outcome c =
    let v = c.view.ensures in
    let q = rw (v.uses_value, v.lengths_value, v.count_value) at c.in_ok-join_cause.ensures in
    join_told c.args.edges.now c.args.first.now c.args.second.now c.args.wires.now _ _ _ q c.connect_checked.ensures.outcome
