-- The squared distance of two points: finite and not negative where no coordinate is too large, and the same both ways, to the bit.
-- The step of one coordinate and that of one sum stand once, for any format; two and three coordinates are put together from them. Assumes nothing.
use Rattle.std.specs.Prelude.{◌≡◌, ℕ, suc, ◌+◌, ◌*◌, ◌^◌, ◌≤◌, ◌<◌, false, T, Float}
use Rattle.std.proofs.Common.{sym, ap, ◌∙◌, arith, lit<, lit≤}
use Rattle.std.proofs.Math.Nat.{le-suc}
use Rattle.std.specs.Float.{Format, binary64}
use Rattle.std.specs.Float.Ieee.{emax, low, round, add, sub, mul, le}
use Rattle.std.specs.Float.Ieee.Scale.{finite}
use Rattle.floats.specs.Exact.{gap2, distance2_uv, distance2_xyz}
use Rattle.floats.proofs.Value.{mag}
use Rattle.floats.proofs.Bounds.{Under, weaken, add_under, sub_under, mul_under}
use Rattle.floats.proofs.Mono.{zero_f, add_nonneg, square_is, square_nonneg, sub_mag}
use Rattle.floats.proofs.Sized.{Sized, sized_under}

-- ---- one coordinate, and one sum, in any format
-- x is at most 2 ^ k units, and not negative
pub record UnderNonneg (f : Format) (k : ℕ) (x : Float) : Type 0 where
  pub under : Under f k x
  pub nonneg : T (le zero_f x)

-- the square of the difference of two coordinates of at most 2 ^ j units
pub gap2_under : {f : Format} {j : ℕ} {a b : Float} (i : ℕ) → suc j < low f + suc (emax f) → i < low f + suc (emax f) → suc j + suc j ≤ i + low f
    → Under f j a → Under f j b → UnderNonneg f i (mul f (sub f b a) (sub f b a))
gap2_under i J I l h k =
    let d = sub_under J k h in
    record { under = mul_under i I l d d; nonneg = square_nonneg d.held }

pub sum_under : {f : Format} {k : ℕ} {x y : Float} → suc k < low f + suc (emax f) → UnderNonneg f k x → UnderNonneg f k y → UnderNonneg f (suc k) (add f x y)
sum_under K h g = record { under = add_under K h.under g.under; nonneg = add_nonneg h.under.held g.under.held h.nonneg g.nonneg }

pub weaken_nonneg : {f : Format} {j k : ℕ} {x : Float} → j ≤ k → UnderNonneg f j x → UnderNonneg f k x
weaken_nonneg l h = record { under = weaken l h.under; nonneg = h.nonneg }

-- the two differences are of one size, so the squares are one value
pub gap2_sym : {f : Format} {j : ℕ} {a b : Float} → suc j < low f + suc (emax f) → Under f j a → Under f j b → mul f (sub f b a) (sub f b a) ≡ mul f (sub f a b) (sub f a b)
gap2_sym {f} {j} {a} {b} J h k =
    let g = (sub_under J k h).held in
    let o = (sub_under J h k).held in
    let e : mag f (sub f b a) ≡ mag f (sub f a b) = sub_mag k.held h.held g o in
    square_is g ∙ ap (λ (m : ℕ). round f false (m * m) (2 ^ low f * 2 ^ low f)) e ∙ sym (square_is o)

-- ---- two and three coordinates of at most 2 ^ j units, f64
pub distance2_uv_under : {j : ℕ} {u0 v0 u1 v1 : Float} (i : ℕ) → suc j < low binary64 + suc (emax binary64) → suc i < low binary64 + suc (emax binary64) → suc j + suc j ≤ i + low binary64
    → Under binary64 j u0 → Under binary64 j v0 → Under binary64 j u1 → Under binary64 j v1 → UnderNonneg binary64 (suc i) (distance2_uv u0 v0 u1 v1)
distance2_uv_under i J I l a b c d =
    let H : i < low binary64 + suc (emax binary64) = omega arith in
    sum_under I (gap2_under i J H l a c) (gap2_under i J H l b d)

pub distance2_xyz_under : {j : ℕ} {x0 y0 z0 x1 y1 z1 : Float} (i : ℕ) → suc j < low binary64 + suc (emax binary64) → suc (suc i) < low binary64 + suc (emax binary64) → suc j + suc j ≤ i + low binary64
    → Under binary64 j x0 → Under binary64 j y0 → Under binary64 j z0 → Under binary64 j x1 → Under binary64 j y1 → Under binary64 j z1
    → UnderNonneg binary64 (suc (suc i)) (distance2_xyz x0 y0 z0 x1 y1 z1)
distance2_xyz_under i J I l a b c d e g =
    let H : i < low binary64 + suc (emax binary64) = omega arith in
    sum_under I (distance2_uv_under i J (omega arith) l a b d e) (weaken_nonneg (le-suc i) (gap2_under i J H l c g))

-- ---- coordinates of size at most 1.0e15
-- r is finite, and not negative
pub record Fine (r : Float) : Type 0 where
  pub bounded : T (finite r)
  pub nonneg : T (le zero_f r)

fine_of : {f : Format} {k : ℕ} {x : Float} → UnderNonneg f k x → Fine x
fine_of h = record { bounded = h.under.held.bounded; nonneg = h.nonneg }

gap2_sized : {a b : Float} → Sized a → Sized b → gap2 a b ≡ gap2 b a
gap2_sized h k = gap2_sym (lit< tt) (sized_under h) (sized_under k)

pub distance2_uv_fine : {u0 v0 u1 v1 : Float} → Sized u0 → Sized v0 → Sized u1 → Sized v1 → Fine (distance2_uv u0 v0 u1 v1)
distance2_uv_fine a b c d = fine_of (distance2_uv_under 1176 (lit< tt) (lit< tt) (lit≤ tt) (sized_under a) (sized_under b) (sized_under c) (sized_under d))

pub distance2_xyz_fine : {x0 y0 z0 x1 y1 z1 : Float} → Sized x0 → Sized y0 → Sized z0 → Sized x1 → Sized y1 → Sized z1 → Fine (distance2_xyz x0 y0 z0 x1 y1 z1)
distance2_xyz_fine a b c d e g =
    fine_of (distance2_xyz_under 1176 (lit< tt) (lit< tt) (lit≤ tt) (sized_under a) (sized_under b) (sized_under c) (sized_under d) (sized_under e) (sized_under g))

pub distance2_uv_sym : {u0 v0 u1 v1 : Float} → Sized u0 → Sized v0 → Sized u1 → Sized v1 → distance2_uv u0 v0 u1 v1 ≡ distance2_uv u1 v1 u0 v0
distance2_uv_sym a b c d = λ i. add binary64 (gap2_sized a c i) (gap2_sized b d i)

pub distance2_xyz_sym : {x0 y0 z0 x1 y1 z1 : Float} → Sized x0 → Sized y0 → Sized z0 → Sized x1 → Sized y1 → Sized z1
    → distance2_xyz x0 y0 z0 x1 y1 z1 ≡ distance2_xyz x1 y1 z1 x0 y0 z0
distance2_xyz_sym a b c d e g = λ i. add binary64 (add binary64 (gap2_sized a d i) (gap2_sized b e i)) (gap2_sized c g i)
