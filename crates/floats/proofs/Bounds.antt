-- Where no operation overflows, by powers of two. `Under f k x` says that x is finite, that f holds it, and that its size is at most 2 ^ k units, which is 2 ^ (k - low f).
-- An operation on such values is such a value, with a k that is worked out of the operands' by addition, as long as it stays below the format's end, low f + emax f + 1. Assumes nothing.
use Rattle.std.specs.Prelude.{◌≡◌, ℕ, suc, ◌+◌, ◌*◌, ◌^◌, ◌≤◌, ◌<◌, Bool, true, false, T, Float}
use Rattle.std.proofs.Common.{sym, ap, ◌∙◌, subst, le_trans, le_of_eq, one-mul, mul_assoc, mul-pos, mul-le-mul, mul-le-mul_left, mul-le-mul_right, arith, pow-add, pow_pos, pow_mono}
use Rattle.std.proofs.Math.Nat.{two-pow-succ}
use Rattle.std.proofs.Math.Pow.{pow-lt}
use Rattle.std.specs.Float.{Format}
use Rattle.std.specs.Float.Ieee.{prec, emax, low, round, neg, add, sub, mul, div, le}
use Rattle.std.specs.Float.Ieee.Fits.{two, two-le_pos}
use Rattle.floats.proofs.Value.{plus, less, sgn, mag, pv, nv, Held, Is, le→sle, round_rep}
use Rattle.floats.proofs.Rounds.{Rounds, held_between, rounds_fits, rounds_ge, rounds_le, neg_held, neg_pv, neg_nv, add_rounds, sub_rounds, mul_rounds, div_rounds}

pub record Under (f : Format) (k : ℕ) (x : Float) : Type 0 where
  pub held : Held f x
  pub small : mag f x ≤ 2 ^ k

pub weaken : {f : Format} {j k : ℕ} {x : Float} → j ≤ k → Under f j x → Under f k x
weaken l h = record { held = h.held; small = le_trans h.small (pow_mono l) }

-- ---- between -b and b
within : (s : Bool) (a p n q m : ℕ) → n ≡ 0 → q ≡ n → m ≡ p → plus s a + n ≤ p + less s a → q + less s a ≤ plus s a + m → a ≤ p
within false a p n q m z e g h k = omega arith
within true a p n q m z e g h k = omega arith

pub pv_of : {f : Format} (x : Float) → Held f x → sgn x ≡ false → pv f x ≡ mag f x
pv_of {f} x h e = ap (λ (s : Bool). plus s (mag f x)) e

pub nv_of : {f : Format} (x : Float) → Held f x → sgn x ≡ false → nv f x ≡ 0
nv_of {f} x h e = ap (λ (s : Bool). less s (mag f x)) e

pub mag_within : {f : Format} {x b : Float} → Held f x → Held f b → sgn b ≡ false → T (le (neg b) x) → T (le x b) → mag f x ≤ mag f b
mag_within {f} {x} {b} h k e lo hi =
    le_trans
    (within (sgn x) (mag f x) (pv f b) (nv f b) (pv f (neg b)) (nv f (neg b)) (nv_of b k e) (neg_pv k) (neg_nv k) (le→sle h k hi) (le→sle (neg_held k) h lo))
    (le_of_eq (pv_of b k e))

-- ---- a rounded number that is at most b in size, for a value b of the format, is finite and at most b in size
above : (p n c u pb nb m q r : ℕ) → pb ≡ m → nb ≡ 0 → q ≡ nb → r ≡ pb → n * u ≤ p * u + m * c → q * c + n * u ≤ p * u + r * c
above p n c u pb nb m q r a b e g h =
    let i : q ≡ 0 = e ∙ b in
    let j : r ≡ m = g ∙ a in
    omega (arith, h, ap (λ (z : ℕ). z * c) i, ap (λ (z : ℕ). z * c) j)

beneath : (p n c u pb nb m : ℕ) → pb ≡ m → nb ≡ 0 → p * u ≤ n * u + m * c → p * u + nb * c ≤ pb * c + n * u
beneath p n c u pb nb m a b h = omega (arith, h, ap (λ (z : ℕ). z * c) a, ap (λ (z : ℕ). z * c) b)

pub rounds_within : {f : Format} {z : Float} {p n c : ℕ} (b : Float) → 0 < c → Held f b → sgn b ≡ false → Rounds f z p n c
    → p * 2 ^ low f ≤ n * 2 ^ low f + mag f b * c → n * 2 ^ low f ≤ p * 2 ^ low f + mag f b * c → Held f z × (mag f z ≤ mag f b)
rounds_within {f} {z} {p} {n} {c} b C h e r x y =
    let u = 2 ^ low f in
    let lo = rounds_ge C (neg_held h) r (above p n c u (pv f b) (nv f b) (mag f b) (pv f (neg b)) (nv f (neg b)) (pv_of b h e) (nv_of b h e) (neg_pv h) (neg_nv h) y) in
    let hi = rounds_le C h r (beneath p n c u (pv f b) (nv f b) (mag f b) (pv_of b h e) (nv_of b h e) x) in
    let g = held_between (neg_held h) h (rounds_fits r) lo hi in
    (g, mag_within g h e lo hi)

one_short : (f : Format) → 1 < 2 ^ prec f
one_short f = pow-lt (two-le_pos (prec f) (two f))

-- 2 ^ k units
pub power : (f : Format) (k : ℕ) → k < low f + suc (emax f) → Is f (round f false (2 ^ k) (2 ^ low f)) false (2 ^ k)
power f k h = subst (λ (z : ℕ). Is f (round f false z (2 ^ low f)) false z) (one-mul (2 ^ k)) (round_rep f false 1 k (one_short f) (subst (λ (z : ℕ). z < 2 ^ (low f + suc (emax f))) (sym (one-mul (2 ^ k))) (pow-lt h)))

pub rounds_under : {f : Format} {z : Float} {p n c : ℕ} (k : ℕ) → k < low f + suc (emax f) → 0 < c → Rounds f z p n c
    → p * 2 ^ low f ≤ n * 2 ^ low f + 2 ^ k * c → n * 2 ^ low f ≤ p * 2 ^ low f + 2 ^ k * c → Under f k z
rounds_under {f} {z} {p} {n} {c} k K C r x y =
    let i = power f k K in
    let b = round f false (2 ^ k) (2 ^ low f) in
    let g = rounds_within b C i.held i.sign r
    (subst (λ (m : ℕ). p * 2 ^ low f ≤ n * 2 ^ low f + m * c) (sym i.size) x)
    (subst (λ (m : ℕ). n * 2 ^ low f ≤ p * 2 ^ low f + m * c) (sym i.size) y) in
    record { held = g.0; small = le_trans g.1 (le_of_eq i.size) }

-- ---- the operations
pub plus_le : (s : Bool) (a : ℕ) → plus s a ≤ a
plus_le false a = omega arith
plus_le true a = omega arith

pub less_le : (s : Bool) (a : ℕ) → less s a ≤ a
less_le false a = omega arith
less_le true a = omega arith

sums : (p q n u k : ℕ) → p ≤ k → q ≤ k → (p + q) * u ≤ n * u + (k + k) * u
sums p q n u k a b = omega (arith, mul-le-mul_right u a, mul-le-mul_right u b)

pub add_under : {f : Format} {k : ℕ} {x y : Float} → suc k < low f + suc (emax f) → Under f k x → Under f k y → Under f (suc k) (add f x y)
add_under {f} {k} {x} {y} K h g =
    let u = 2 ^ low f in
    rounds_under (suc k) K (pow_pos (low f)) (add_rounds h.held g.held)
    (rw (two-pow-succ k) (sums (pv f x) (pv f y) (nv f x + nv f y) u (2 ^ k) (le_trans (plus_le (sgn x) (mag f x)) h.small) (le_trans (plus_le (sgn y) (mag f y)) g.small)))
    (rw (two-pow-succ k) (sums (nv f x) (nv f y) (pv f x + pv f y) u (2 ^ k) (le_trans (less_le (sgn x) (mag f x)) h.small) (le_trans (less_le (sgn y) (mag f y)) g.small)))

pub sub_under : {f : Format} {k : ℕ} {x y : Float} → suc k < low f + suc (emax f) → Under f k x → Under f k y → Under f (suc k) (sub f x y)
sub_under {f} {k} {x} {y} K h g =
    let u = 2 ^ low f in
    rounds_under (suc k) K (pow_pos (low f)) (sub_rounds h.held g.held)
    (rw (two-pow-succ k) (sums (pv f x) (nv f y) (nv f x + pv f y) u (2 ^ k) (le_trans (plus_le (sgn x) (mag f x)) h.small) (le_trans (less_le (sgn y) (mag f y)) g.small)))
    (rw (two-pow-succ k) (sums (nv f x) (pv f y) (pv f x + nv f y) u (2 ^ k) (le_trans (less_le (sgn x) (mag f x)) h.small) (le_trans (plus_le (sgn y) (mag f y)) g.small)))

-- of the two signed products one is 0 and the other is the product of the sizes
prods : (s : Bool) (a : ℕ) (t : Bool) (b : ℕ) → (plus s a * plus t b + less s a * less t b ≤ a * b) × (plus s a * less t b + less s a * plus t b ≤ a * b)
prods false a false b = (omega arith, omega arith)
prods false a true b = (omega arith, omega arith)
prods true a false b = (omega arith, omega arith)
prods true a true b = (omega arith, omega arith)

spread : (p n m u k : ℕ) → p ≤ m → m * u ≤ k → p * u ≤ n * u + k
spread p n m u k a b = omega (arith, mul-le-mul_right u a)

pub mul_under : {f : Format} {j k : ℕ} {x y : Float} (i : ℕ) → i < low f + suc (emax f) → j + k ≤ i + low f → Under f j x → Under f k y → Under f i (mul f x y)
mul_under {f} {j} {k} {x} {y} i I l h g =
    let u = 2 ^ low f in
    let m : mag f x * mag f y * u ≤ 2 ^ i * (u * u) =
    le_trans (mul-le-mul_right u (le_trans (mul-le-mul h.small g.small) (le_trans (le_of_eq (sym (pow-add 2 j k))) (le_trans (pow_mono l) (le_of_eq (pow-add 2 i (low f)))))))
    (le_of_eq (mul_assoc (2 ^ i) u u)) in
    let q = prods (sgn x) (mag f x) (sgn y) (mag f y) in
    rounds_under i I (mul-pos (pow_pos (low f)) (pow_pos (low f))) (mul_rounds h.held g.held)
    (spread (pv f x * pv f y + nv f x * nv f y) (pv f x * nv f y + nv f x * pv f y) (mag f x * mag f y) u (2 ^ i * (u * u)) q.0 m)
    (spread (pv f x * nv f y + nv f x * pv f y) (pv f x * pv f y + nv f x * nv f y) (mag f x * mag f y) u (2 ^ i * (u * u)) q.1 m)

-- by a y of 2 ^ k units at least
pub div_under : {f : Format} {j : ℕ} {x y : Float} (k i : ℕ) → i < low f + suc (emax f) → j + low f ≤ i + k → Under f j x → Held f y → sgn y ≡ false → 2 ^ k ≤ mag f y → Under f i (div f x y)
div_under {f} {j} {x} {y} k i I l h g e b =
    let u = 2 ^ low f in
    let m : mag f x * u ≤ 2 ^ i * mag f y =
    le_trans (mul-le-mul_right u h.small) (le_trans (le_of_eq (sym (pow-add 2 j (low f)))) (le_trans (pow_mono l) (le_trans (le_of_eq (pow-add 2 i k)) (mul-le-mul_left (2 ^ i) b)))) in
    let Y : 0 < mag f y = le_trans (pow_pos k) b in
    rounds_under i I Y (div_rounds h.held g e Y)
    (spread (pv f x) (nv f x) (mag f x) u (2 ^ i * mag f y) (plus_le (sgn x) (mag f x)) m)
    (spread (nv f x) (pv f x) (mag f x) u (2 ^ i * mag f y) (less_le (sgn x) (mag f x)) m)
