use Rattle.cutting.specs.cut_edge.Cut.{pending_of}
use Rattle.cutting.proofs.Within.{pending_accepted}
use Rattle.cutting.proofs.cut_edge.pending.Goals as goal

pub returns-clause-exact : goal.returns-clause-exact
unfolding pending_of
returns-clause-exact c = rw c.parameter-t.ensures.exact

pub returns-clause-accepted : goal.returns-clause-accepted
returns-clause-accepted c q = pending_accepted c.args.k c.args.e.curve c.parameter-t.result c.parameter-t.ensures q
