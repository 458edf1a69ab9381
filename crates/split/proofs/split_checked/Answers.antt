use Rattle.std.proofs.Common.{◌≡◌, ◌/◌, length, refl, arith}
use Rattle.compress.proofs.Refused.{exit_is}
use Rattle.split.proofs.Storing.{stored, stored_stop}
use Rattle.split.proofs.split_checked.Goals as goal

pub returns-in_err-walked-clause-outcome : goal.returns-in_err-walked-clause-outcome
returns-in_err-walked-clause-outcome c =
    let v = c.view.ensures in
    let p : length c.args.divisor.now.vertices.now / 2 ≡ c.args.divisor.now.count / 2 = omega (arith, c.requires.walkable.paired) in
    rw (exit_is _ _ c.from_residual.ensures.1) (stored_stop _ _ _ _ _ _ _ _ _ (rw (v.numbers_value, v.count_value, p) at c.in_err-walked.ensures) refl refl)

pub returns : goal.returns
returns c =
    let v = c.view.ensures in
    let e = c.create_new_edges.ensures in
    let p : length c.args.divisor.now.vertices.now / 2 ≡ c.args.divisor.now.count / 2 = omega (arith, c.requires.walkable.paired) in
    record {
      outcome = stored _ _ _ _ _ _ _ _ _ _ (rw (v.numbers_value, v.count_value, p) at c.in_ok-walked.ensures) e.edge_numbers_after e.edge_floats_after;
      same = e.same;
    }
