use Rattle.std.proofs.Common.{rules}
use Rattle.periodic.specs.Unwrap.{away_from}
use Rattle.periodic.proofs.nearer.Goals as goal

pub returns : goal.returns
unfolding away_from
returns c = c.smaller.ensures (away_from c.args.u0) (λ x m h. search rules)
