use Rattle.periodic.specs.Unwrap.{unwrapped}
use Rattle.periodic.proofs.unwrap.Goals as goal

pub returns-in-None : goal.returns-in-None
unfolding unwrapped
returns-in-None c = rw c.in-None.is

pub returns-in-Some : goal.returns-in-Some
unfolding unwrapped
returns-in-Some c = rw (c.in-Some.is, c.first_nearest.ensures, c.candidates.ensures)
