use Rattle.std.proofs.Common.{rules}
use Rattle.floats.proofs.Eighths.{parameter_meets, by_middle, by_eighths}
use Rattle.floats.proofs.cut_parameter.Goals as goal

pub returns-then-k-eq4 : goal.returns-then-k-eq4
returns-then-k-eq4 c =
    let a = c.args in
    parameter_meets a.k a.t0 a.t1 _ (search rules) (search rules) (search rules) (by_middle a.k a.t0 a.t1 _ c.if-k-eq4.true c.midpoint.ensures)

pub returns : goal.returns
returns c =
    let a = c.args in
    parameter_meets a.k a.t0 a.t1 _ (search rules) (search rules) (search rules)
    (by_eighths a.k a.t0 a.t1 _ c.if-k-eq4.false (rw c.eighths_on.ensures at c.kept_within.ensures))
