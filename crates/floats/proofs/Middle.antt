-- The midpoint of two floats lies between them, or at an end: for any signs, zeros and the smallest values too, as long as twice each is below the overflow. Assumes nothing.
use Rattle.std.specs.Prelude.{◌≡◌, ℕ, suc, ◌+◌, ◌*◌, ◌^◌, ◌≤◌, ◌<◌, false, T, Float}
use Rattle.std.proofs.Common.{sym, ap, ◌∙◌, subst, lt_of_le_of_lt, mul_assoc, mul-le-mul_right, pow-suc, arith, pow_pos}
use Rattle.std.specs.Float.{nan, inf, fin, Format, binary64}
use Rattle.std.specs.Float.Ieee.{emax, low, round, add, div, le}
use Rattle.std.specs.Float.Ieee.Fits.{add-fits}
use Rattle.compress.specs.Constants.{two64}
use Rattle.floats.specs.Exact.{midpoint_of}
use Rattle.floats.proofs.Sized.{Sized, two_held, two_sgn, two_mag, big_mag, sized_held, sized_mag}
use Rattle.floats.proofs.Value.{sgn, place, mag, pv, nv, Held, plus_mul, less_mul, short_of, le→sle, round_rep}
use Rattle.floats.proofs.Rounds.{held_between, rounds_ge, rounds_le, add_rounds, div_rounds}

-- ---- twice a value is a value, below the overflow
pub record Doubled (f : Format) (x : Float) : Type 0 where
  pub at : Float
  pub held : Held f at
  pub plus_two : pv f at ≡ pv f x * 2
  pub less_two : nv f at ≡ nv f x * 2

pub double : (f : Format) (x : Float) → Held f x → mag f x * 2 < 2 ^ (low f + suc (emax f)) → Doubled f x
double f nan h b = absurd h.bounded
double f (inf s) h b = absurd h.bounded
double f (fin s m e) h b =
    let j = place (low f) e in
    let g : m * 2 ^ suc j ≡ m * 2 ^ j * 2 = ap (λ (z : ℕ). m * z) (pow-suc 2 j) ∙ sym (mul_assoc m (2 ^ j) 2) in
    let i = round_rep f s m (suc j) (short_of f s m e h) (subst (λ (z : ℕ). z < 2 ^ (low f + suc (emax f))) (sym g) b) in
    record {
      at = round f s (m * 2 ^ suc j) (2 ^ low f);
      held = i.held;
      plus_two = rw (i.sign, i.size, g) (plus_mul s (m * 2 ^ j) 2);
      less_two = rw (i.sign, i.size, g) (less_mul s (m * 2 ^ j) 2);
    }

-- ---- (x + y) / w, for a w that is 2
-- 2 x ≤ x + y ≤ 2 y, and x ≤ s / 2 ≤ y from 2 x ≤ s ≤ 2 y, as differences px - nx and so on, over u
first : (px nx py ny p n u : ℕ) → px + ny ≤ py + nx → p ≡ px * 2 → n ≡ nx * 2 → p * u + (nx + ny) * u ≤ (px + py) * u + n * u
first px nx py ny p n u h a b = omega (arith, mul-le-mul_right u h, ap (λ (z : ℕ). z * u) a, ap (λ (z : ℕ). z * u) b)

second : (px nx py ny p n u : ℕ) → px + ny ≤ py + nx → p ≡ py * 2 → n ≡ ny * 2 → (px + py) * u + n * u ≤ p * u + (nx + ny) * u
second px nx py ny p n u h a b = omega (arith, mul-le-mul_right u h, ap (λ (z : ℕ). z * u) a, ap (λ (z : ℕ). z * u) b)

third : (px nx ps ns p n u w : ℕ) → w ≡ 2 * u → p ≡ px * 2 → n ≡ nx * 2 → p + ns ≤ ps + n → px * w + ns * u ≤ ps * u + nx * w
third px nx ps ns p n u w e a b h = omega (arith, mul-le-mul_right u h, ap (λ (z : ℕ). px * z) e, ap (λ (z : ℕ). nx * z) e, ap (λ (z : ℕ). z * u) a, ap (λ (z : ℕ). z * u) b)

fourth : (py ny ps ns p n u w : ℕ) → w ≡ 2 * u → p ≡ py * 2 → n ≡ ny * 2 → ps + n ≤ p + ns → ps * u + ny * w ≤ py * w + ns * u
fourth py ny ps ns p n u w e a b h = omega (arith, mul-le-mul_right u h, ap (λ (z : ℕ). py * z) e, ap (λ (z : ℕ). ny * z) e, ap (λ (z : ℕ). z * u) a, ap (λ (z : ℕ). z * u) b)

some_of : (w u : ℕ) → 0 < u → w ≡ 2 * u → 0 < w
some_of w u h e = omega arith

pub halfway : (f : Format) (x y w : Float) → Held f x → Held f y → Held f w → sgn w ≡ false → mag f w ≡ 2 * 2 ^ low f
    → mag f x * 2 < 2 ^ (low f + suc (emax f)) → mag f y * 2 < 2 ^ (low f + suc (emax f)) → T (le x y)
    → T (le x (div f (add f x y) w)) × T (le (div f (add f x y) w) y)
halfway f x y w h k o so mo bx by l =
    let u = 2 ^ low f in
    let U : 0 < u = pow_pos (low f) in
    let W : 0 < mag f w = some_of (mag f w) u U mo in
    let a = double f x h bx in
    let b = double f y k by in
    let s = add f x y in
    let r = add_rounds h k in
    let v = le→sle h k l in
    let lo = rounds_ge U a.held r (first (pv f x) (nv f x) (pv f y) (nv f y) (pv f a.at) (nv f a.at) u v a.plus_two a.less_two) in
    let hi = rounds_le U b.held r (second (pv f x) (nv f x) (pv f y) (nv f y) (pv f b.at) (nv f b.at) u v b.plus_two b.less_two) in
    let t = held_between a.held b.held (add-fits f x y) lo hi in
    let q = div_rounds t o so W in (
      rounds_ge W h q
          (third (pv f x) (nv f x) (pv f s) (nv f s) (pv f a.at) (nv f a.at) u (mag f w) mo a.plus_two a.less_two (le→sle a.held t lo)),
      rounds_le W k q
          (fourth (pv f y) (nv f y) (pv f s) (nv f s) (pv f b.at) (nv f b.at) u (mag f w) mo b.plus_two b.less_two (le→sle t b.held hi)),
    )

-- ---- at the f64's of size at most 1.0e15
sized_room : {x : Float} → Sized x → mag binary64 x * 2 < 2 ^ (low binary64 + suc (emax binary64))
sized_room h = lt_of_le_of_lt (mul-le-mul_right 2 (sized_mag h)) big_mag

pub midpoint_between : {t0 t1 : Float} → Sized t0 → Sized t1 → T (le t0 t1) → T (le t0 (midpoint_of t0 t1)) × T (le (midpoint_of t0 t1) t1)
midpoint_between {t0} {t1} a b l =
    halfway binary64 t0 t1 two64 (sized_held a) (sized_held b) two_held two_sgn two_mag (sized_room a) (sized_room b) l
