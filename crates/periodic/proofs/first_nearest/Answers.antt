use Rattle.std.proofs.Common.{rules}
use Rattle.std.proofs.lemmas.Grind.{common_steps}
use Rattle.periodic.specs.Unwrap.{nearest_of}
use Rattle.periodic.proofs.first_nearest.Goals as goal

pub returns : goal.returns
unfolding nearest_of
returns c = search (rules, common_steps)
