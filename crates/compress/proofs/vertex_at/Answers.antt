use borrow.Author.Tests.{eq-eqb, ne_eqb}
use Rattle.compress.specs.Rows.{vertex_of}
use Rattle.compress.proofs.vertex_at.Goals as goal

pub returns-then-numbers-a-eq0 : goal.returns-then-numbers-a-eq0
unfolding vertex_of
returns-then-numbers-a-eq0 c = rw (c.from.ensures, c.read.ensures) (simp (eq-eqb _ _ c.if-numbers-a-eq0.true))

pub returns : goal.returns
unfolding vertex_of
returns c = rw c.curve_at-curve.ensures (simp (ne_eqb _ _ c.if-numbers-a-eq0.false))
