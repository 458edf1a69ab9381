use Rattle.checks.proofs.Lowest.{lower_same}
use Rattle.edge_cuts.specs.cuts.Cuts.{cut_cause}
use Rattle.edge_cuts.proofs.cuts.cut_cause.Goals as goal

pub returns : goal.returns
unfolding cut_cause
returns c = lower_same c.parameter.ensures c.point.ensures c.lower.ensures
