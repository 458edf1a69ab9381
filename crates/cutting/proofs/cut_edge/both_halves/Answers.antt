use Rattle.std.proofs.Common.{◌≡◌, refl}
use Rattle.std.specs.Prelude.{Float}
use Rattle.compress.specs.declared.Curve.{Curve}
use Rattle.compress.specs.declared.Curve.TheVariants.{Span, Seam}
use Rattle.compress.specs.Records.{first_of, last_of}
use Rattle.cutting.specs.cut_edge.Cut.{with_range, up_to, from_on, halves_of}
use Rattle.cutting.proofs.cut_edge.both_halves.Goals as goal

first_half : (c : Curve) (t : Float) → with_range c (first_of c) t ≡ up_to c t
first_half (Span n a b) t = refl
first_half (Seam n p q a b) t = refl

second_half : (c : Curve) (t : Float) → with_range c t (last_of c) ≡ from_on c t
second_half (Span n a b) t = refl
second_half (Seam n p q a b) t = refl

pub returns : goal.returns
unfolding halves_of
returns c =
    let r = c.range-t0.ensures in
    rw (c.with_range.ensures, c.with_range-2.ensures, r.0, r.1, first_half, second_half)
