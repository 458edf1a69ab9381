use Rattle.std.proofs.Common.{rules, arith, ◌≡◌}
use Rattle.std.specs.Prelude.{sum}
use Rattle.std.proofs.iter.runs.Sources.{words_Small}
use Rattle.rows.proofs.Totals.{total_is_sum}
use Rattle.rows.proofs.lent.sum_of.Goals as goal

pub returns-clause-value : goal.returns-clause-value
returns-clause-value c = rw (total_is_sum c.args.lengths.now) (search rules)

pub returns-clause-bound : goal.returns-clause-bound
returns-clause-bound c =
    let e : c.sum.result ≡ sum c.args.lengths.now = search rules in
    omega (arith, e, (words_Small c.args.lengths.now c.type_inv.lengths).1)
