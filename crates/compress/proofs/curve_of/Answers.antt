use borrow.Author.Tests.{eq-eqb, ne_eqb}
use Rattle.compress.specs.Rows.{curve_of}
use Rattle.compress.proofs.curve_of.Goals as goal

pub returns-then-kind-eq0 : goal.returns-then-kind-eq0
unfolding curve_of
returns-then-kind-eq0 c = simp (eq-eqb _ _ c.if-kind-eq0.true)

pub returns-else-kind-eq0 : goal.returns-else-kind-eq0
unfolding curve_of
returns-else-kind-eq0 c = simp (ne_eqb _ _ c.if-kind-eq0.false)
