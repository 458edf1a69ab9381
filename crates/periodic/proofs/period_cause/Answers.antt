use Rattle.std.proofs.Common.{arith}
use Rattle.std.proofs.lemmas.Grind.{common_steps}
use Rattle.periodic.specs.Unwrap.{period_cause_of}
use Rattle.periodic.proofs.period_cause.Goals as goal

pub returns : goal.returns
unfolding period_cause_of
returns c = grind (arith, common_steps)
