use mathlib.Core.Path.{refl}
use borrow.Author.Tests.{eq-eqb, ne_eqb}
use Rattle.cutting.specs.mending.Parts.{uses_of_parts}
use Rattle.cutting.specs.mending.Replace.{replace_use}
use Rattle.cutting.proofs.mending.replace_use.Goals as goal

pub returns-in_default : goal.returns-in_default
unfolding uses_of_parts replace_use
returns-in_default c = rw c.in_default.is refl

pub returns-then-u-eq0 : goal.returns-then-u-eq0
unfolding uses_of_parts replace_use
returns-then-u-eq0 c = rw (c.in-Some.is, eq-eqb _ _ c.if-u-eq0.true) refl

pub returns : goal.returns
unfolding uses_of_parts replace_use
returns c = rw (c.in-Some.is, ne_eqb _ _ c.if-u-eq0.false) refl
