use Rattle.periodic.proofs.along.Goals as goal

pub returns : goal.returns
returns c = rw (c.later_along.ensures, c.closer-first.ensures, c.shift.ensures, c.first_shift.ensures)
