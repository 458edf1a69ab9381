use mathlib.Core.Path.{◌≡◌}
use Rattle.std.proofs.Common.{◌+◌}
use native.Mathlib.Omega.{arith}
use mathlib.Core.Bool.{false≢true}
use Rattle.std.proofs.lemmas.Bool.{and_parts}
use Rattle.checks.proofs.Sound.{span_sound, seam_sound}
use Rattle.checks.proofs.tables.is_curve_sound.Goals as goal

pub returns-then-not-is_range_sound : goal.returns-then-not-is_range_sound
returns-then-not-is_range_sound c = λ e. absurd (false≢true e)

pub returns-then-kind-ne1 : goal.returns-then-kind-ne1
returns-then-kind-ne1 c = λ e. absurd (false≢true e)

pub returns-then-kind-eq0 : goal.returns-then-kind-eq0
returns-then-kind-eq0 c = λ e. (omega arith, λ n. span_sound _ n _ _ _ _ c.if-kind-eq0.true (c.is_range_sound.ensures c.if-not-is_range_sound.false))

pub returns : goal.returns
returns c = λ e.
    let k : c.args.kind ≡ 1 = c.if-kind-ne1.false in
    let j : c.args.b + 2 + 1 ≡ c.args.b + 3 = omega arith in
    let p = and_parts c.is_uv_sound.result c.is_uv_sound-2.result e in
    (omega arith, λ n. seam_sound _ n _ _ _ _ k (rw c.read.ensures at (c.is_uv_sound.ensures p.0)) (rw (c.read-2.ensures, j) at (c.is_uv_sound-2.ensures p.1)) (c.is_range_sound.ensures c.if-not-is_range_sound.false))
