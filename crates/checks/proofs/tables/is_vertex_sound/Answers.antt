use Rattle.checks.proofs.tables.Told.{told_none}
use mathlib.Core.Bool.{false≢true}
use Rattle.checks.proofs.Sound.{given_sound, pending_sound}
use Rattle.checks.proofs.tables.is_vertex_sound.Goals as goal

pub returns-then-kind-eq0 : goal.returns-then-kind-eq0
returns-then-kind-eq0 c = λ e. given_sound _ _ _ c.if-kind-eq0.true (told_none _ _ (rw c.read.ensures at c.is_point_sound.ensures) e)

pub returns-then-kind-ne1 : goal.returns-then-kind-ne1
returns-then-kind-ne1 c = λ e. absurd (false≢true e)

pub returns : goal.returns
returns c = λ e. let a = c.args in pending_sound a.vertices.now.numbers.now a.vertices.now.floats.now a.i c.if-kind-ne1.false (c.is_pending_sound.ensures e)
