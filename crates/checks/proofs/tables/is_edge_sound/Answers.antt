use native.Mathlib.Omega.{arith}
use mathlib.Core.Bool.{false≢true}
use Rattle.checks.proofs.Sound.{edge_sound}
use Rattle.checks.proofs.tables.is_edge_sound.Goals as goal

pub returns-then-numbers-a : goal.returns-then-numbers-a
returns-then-numbers-a c = λ e. absurd (false≢true e)

pub returns-then-numbers-a-2 : goal.returns-then-numbers-a-2
returns-then-numbers-a-2 c = λ e. absurd (false≢true e)

pub returns-then-numbers-a-gt2 : goal.returns-then-numbers-a-gt2
returns-then-numbers-a-gt2 c = λ e. absurd (false≢true e)

pub returns : goal.returns
returns c = λ e v h.
    let a = c.args in
    edge_sound v a.edges.now.numbers.now a.edges.now.floats.now a.i (omega (arith, c.if-numbers-a.false)) (omega (arith, c.if-numbers-a-2.false)) (omega (arith, c.if-numbers-a-gt2.false))
    (c.is_curve_sound.ensures e)
