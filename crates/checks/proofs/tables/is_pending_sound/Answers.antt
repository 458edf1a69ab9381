use mathlib.Core.Bool.{false≢true}
use Rattle.checks.proofs.Sound.{vertex_sound}
use Rattle.checks.proofs.tables.is_pending_sound.Goals as goal

pub returns-then-not-is_curve_sound : goal.returns-then-not-is_curve_sound
returns-then-not-is_curve_sound c = λ e. absurd (false≢true e)

pub returns : goal.returns
returns c = λ e. let a = c.args in let s = c.is_curve_sound.ensures c.if-not-is_curve_sound.false in (s.0, λ n. vertex_sound a.kind n a.floats.now a.b _ (s.1 n) (c.is_parameter_sound.ensures e))
