use Rattle.rows.proofs.Each.{none_left, first_of, fewer}
use Rattle.rows.proofs.lent.EachWireIterator.next.Goals as goal

pub returns-in_err-size-clause-steps : goal.returns-in_err-size-clause-steps
returns-in_err-size-clause-steps c =
    let none = none_left _ _ c.in_err-size.ensures.cases in
    rw c.from_residual.ensures (none, none)

pub returns-clause-steps : goal.returns-clause-steps
returns-clause-steps c = rw (c.split_at.ensures.front, c.split_at.ensures.back) (first_of _ _ _ _ _ c.in_ok-size.ensures.cases.0 c.min.ensures)

pub returns-clause-goes : goal.returns-clause-goes
returns-clause-goes c =
    let first = first_of _ _ _ _ _ c.in_ok-size.ensures.cases.0 c.min.ensures in
    record { on = λ f. (tt, tt, rw c.split_at.ensures.back (fewer _ _ _ first)); keeps = tt; rests = λ f. tt }
