use borrow.Author.Tests.{eq-eqb, ne_eqb}
use Rattle.compress.specs.Records.{front_of}
use Rattle.compress.proofs.front.Goals as goal

pub returns-then-u-eq0 : goal.returns-then-u-eq0
unfolding front_of
returns-then-u-eq0 c = simp (eq-eqb _ _ c.if-u-eq0.true)

pub returns-else-u-eq0 : goal.returns-else-u-eq0
unfolding front_of
returns-else-u-eq0 c = simp (ne_eqb _ _ c.if-u-eq0.false)
