use mathlib.Core.Path.{refl}
use Rattle.compress.specs.Shell.{uses_fit}
use Rattle.rows.proofs.uses_fit.Goals as goal

pub returns : goal.returns
unfolding uses_fit
returns c = refl
