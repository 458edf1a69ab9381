-- The operations keep the order, for values of any sign: sums and differences, products with a factor that is not negative, quotients by a value above zero. And the order is total. Assumes nothing.
use Rattle.std.specs.Prelude.{◌≡◌, refl, ℕ, ◌+◌, ◌*◌, ◌^◌, ◌≤◌, ◌<◌, Bool, true, false, not, cond, T, pos, Float}
use Rattle.std.proofs.Common.{sym, ap, ◌∙◌, subst, le_refl, add_comm, mul-pos, mul-le-mul, mul-le-mul_right, arith, nltb→le, pow_pos}
use Rattle.std.specs.Float.{nan, inf, fin, Format}
use Rattle.std.specs.Float.Ieee.{low, up, down, below, unlike, round, neg, add, sub, mul, div, le, lt, fits}
use Rattle.std.specs.Float.Ieee.Scale.{finite}
use Rattle.floats.proofs.Value.{plus, less, Sle, sgn, mag, pv, nv, Held, le→sle, sle→le, sle→test}
use Rattle.floats.proofs.Bounds.{plus_le}
use Rattle.floats.proofs.Rounds.{Rounds, round_neg, neg_held, rounds_mono, rounds_ge, signed_mono, add_rounds, sub_rounds, mul_rounds, div_rounds, mul_is}

-- 0.0, of any format
abbrev pub zero_f : Float
zero_f = fin false 0 (pos 0)

sum_arith : (a b c d p q r s u : ℕ) → a + s ≤ c + q → b + r ≤ d + p → (a + b) * u + (s + r) * u ≤ (c + d) * u + (q + p) * u
sum_arith a b c d p q r s u h k = omega (arith, mul-le-mul_right u h, mul-le-mul_right u k)

pub add_mono : {f : Format} {x y x' y' : Float} → Held f x → Held f y → Held f x' → Held f y' → T (le x x') → T (le y y') → T (le (add f x y) (add f x' y'))
add_mono {f} {x} {y} {x'} {y'} h k h' k' l m =
    rounds_mono (pow_pos (low f)) (pow_pos (low f)) (add_rounds h k) (add_rounds h' k')
    (sum_arith (pv f x) (pv f y) (pv f x') (pv f y') (nv f y) (nv f x) (nv f y') (nv f x') (2 ^ low f) (le→sle h h' l) (le→sle k k' m))

pub sub_mono : {f : Format} {x y x' y' : Float} → Held f x → Held f y → Held f x' → Held f y' → T (le x x') → T (le y' y) → T (le (sub f x y) (sub f x' y'))
sub_mono {f} {x} {y} {x'} {y'} h k h' k' l m =
    rounds_mono (pow_pos (low f)) (pow_pos (low f)) (sub_rounds h k) (sub_rounds h' k')
    (sum_arith (pv f x) (nv f y) (pv f x') (nv f y') (pv f y) (nv f x) (pv f y') (nv f x') (2 ^ low f) (le→sle h h' l) (omega (arith, le→sle k' k m)))

-- ---- zero, and what is not negative
pub zero_held : {f : Format} → Held f zero_f
unfolding fits
zero_held = record { fit = tt; bounded = tt }

pub nonneg : {f : Format} {x : Float} → Held f x → T (le zero_f x) → nv f x ≡ 0
nonneg {f} {x} h l = split (sgn x) (mag f x) (2 ^ (0 + low f)) (le→sle zero_held h l)
  where
    split : (s : Bool) (a u : ℕ) → 0 * u + less s a ≤ plus s a + 0 → less s a ≡ 0
    split false a u k = refl
    split true a u k = omega arith

pub add_nonneg : {f : Format} {x y : Float} → Held f x → Held f y → T (le zero_f x) → T (le zero_f y) → T (le zero_f (add f x y))
add_nonneg {f} {x} {y} h k a b =
    rounds_ge (pow_pos (low f)) zero_held (add_rounds h k) (above (2 ^ (0 + low f)) (2 ^ low f) (pv f x + pv f y) (nv f x) (nv f y) (nonneg h a) (nonneg k b))
  where
    above : (v u p n m : ℕ) → n ≡ 0 → m ≡ 0 → 0 * v * u + (n + m) * u ≤ p * u + 0 * u
    above v u p n m i j = omega (arith, ap (λ (z : ℕ). z * u) i, ap (λ (z : ℕ). z * u) j)

-- y - x, for x ≤ y
pub gap_nonneg : {f : Format} {x y : Float} → Held f x → Held f y → T (le x y) → T (le zero_f (sub f y x))
gap_nonneg {f} {x} {y} h k l =
    rounds_ge (pow_pos (low f)) zero_held (sub_rounds k h) (above (2 ^ (0 + low f)) (2 ^ low f) (pv f y) (nv f x) (nv f y) (pv f x) (le→sle h k l))
  where
    above : (v u p q n m : ℕ) → m + n ≤ p + q → 0 * v * u + (n + m) * u ≤ (p + q) * u + 0 * u
    above v u p q n m i = omega (arith, mul-le-mul_right u i)

pub mag_upto : {f : Format} {x b : Float} → Held f x → Held f b → T (le zero_f x) → T (le x b) → mag f x ≤ mag f b
mag_upto {f} {x} {b} h k z l = split (sgn x) (mag f x) (pv f b) (nv f b) (mag f b) (plus_le (sgn b) (mag f b)) (nonneg h z) (le→sle h k l)
  where
    split : (s : Bool) (a p n m : ℕ) → p ≤ m → less s a ≡ 0 → plus s a + n ≤ p + less s a → a ≤ m
    split false a p n m i j g = omega arith
    split true a p n m i j g = omega arith

-- ---- products with a factor that is not negative
prod_arith : (px nx px' nx' pd nd v : ℕ) → nd ≡ 0 → px + nx' ≤ px' + nx → (px * pd + nx * nd) * v + (px' * nd + nx' * pd) * v ≤ (px' * pd + nx' * nd) * v + (px * nd + nx * pd) * v
prod_arith px nx px' nx' pd nd v z h =
    omega (arith, mul-le-mul_right v (mul-le-mul_right pd h), ap (λ (k : ℕ). nx * k * v) z, ap (λ (k : ℕ). px' * k * v) z, ap (λ (k : ℕ). nx' * k * v) z, ap (λ (k : ℕ). px * k * v) z)

pub mul_mono : {f : Format} {x x' d : Float} → Held f x → Held f x' → Held f d → T (le zero_f d) → T (le x x') → T (le (mul f x d) (mul f x' d))
mul_mono {f} {x} {x'} {d} h h' k z l =
    let u = 2 ^ low f in
    let U : 0 < u * u = mul-pos (pow_pos (low f)) (pow_pos (low f)) in
    rounds_mono U U (mul_rounds h k) (mul_rounds h' k) (prod_arith (pv f x) (nv f x) (pv f x') (nv f x') (pv f d) (nv f d) (u * u) (nonneg k z) (le→sle h h' l))

-- with the factor on the left
pub mul_mono_left : {f : Format} {x x' d : Float} → Held f x → Held f x' → Held f d → T (le zero_f d) → T (le x x') → T (le (mul f d x) (mul f d x'))
mul_mono_left {f} {x} {x'} {d} h h' k z l =
    let u = 2 ^ low f in
    let U : 0 < u * u = mul-pos (pow_pos (low f)) (pow_pos (low f)) in
    rounds_mono U U (mul_rounds k h) (mul_rounds k h') (arith_left (pv f x) (nv f x) (pv f x') (nv f x') (pv f d) (nv f d) (u * u) (nonneg k z) (le→sle h h' l))
  where
    arith_left : (px nx px' nx' pd nd v : ℕ) → nd ≡ 0 → px + nx' ≤ px' + nx → (pd * px + nd * nx) * v + (pd * nx' + nd * px') * v ≤ (pd * px' + nd * nx') * v + (pd * nx + nd * px) * v
    arith_left px nx px' nx' pd nd v z h =
        omega (arith, mul-le-mul_right v (mul-le-mul_right pd h), ap (λ (k : ℕ). nx * k * v) z, ap (λ (k : ℕ). px' * k * v) z, ap (λ (k : ℕ). nx' * k * v) z, ap (λ (k : ℕ). px * k * v) z)

pub div_mono : {f : Format} {x x' d : Float} → Held f x → Held f x' → Held f d → sgn d ≡ false → 0 < mag f d → T (le x x') → T (le (div f x d) (div f x' d))
div_mono {f} {x} {x'} {d} h h' k e D l =
    rounds_mono D D (div_rounds h k e D) (div_rounds h' k e D) (quot_arith (pv f x) (nv f x) (pv f x') (nv f x') (mag f d) (le→sle h h' l))
  where
    quot_arith : (px nx px' nx' v : ℕ) → px + nx' ≤ px' + nx → px * v + nx' * v ≤ px' * v + nx * v
    quot_arith px nx px' nx' v h = omega (arith, mul-le-mul_right v h)

-- ---- squares
alike : (s : Bool) → unlike s s ≡ false
alike true = refl
alike false = refl

pub square_is : {f : Format} {x : Float} → Held f x → mul f x x ≡ round f false (mag f x * mag f x) (2 ^ low f * 2 ^ low f)
square_is {f} {x} h = mul_is h h ∙ ap (λ (s : Bool). round f s (mag f x * mag f x) (2 ^ low f * 2 ^ low f)) (alike (sgn x))

pub square_mono : {f : Format} {x y : Float} → Held f x → Held f y → mag f x ≤ mag f y → T (le (mul f x x) (mul f y y))
square_mono {f} {x} {y} h k l =
    let u = 2 ^ low f * 2 ^ low f in
    let U : 0 < u = mul-pos (pow_pos (low f)) (pow_pos (low f)) in
    rw (square_is h, square_is k) (signed_mono f false (mag f x * mag f x) u false (mag f y * mag f y) u U U (omega (arith, mul-le-mul_right u (mul-le-mul l l))))

pub square_nonneg : {f : Format} {x : Float} → Held f x → T (le zero_f (mul f x x))
square_nonneg {f} {x} h =
    rounds_ge (mul-pos (pow_pos (low f)) (pow_pos (low f))) zero_held (mul_rounds h h) (signs (sgn x) (mag f x) (2 ^ (0 + low f)) (2 ^ low f) (2 ^ low f * 2 ^ low f))
  where
    signs : (s : Bool) (a v u c : ℕ) → 0 * v * c + (plus s a * less s a + less s a * plus s a) * u ≤ (plus s a * plus s a + less s a * less s a) * u + 0 * c
    signs false a v u c = omega arith
    signs true a v u c = omega arith

-- ---- the order is total
turned : (s : Bool) (a : ℕ) (t : Bool) (b : ℕ) → T (not (below s a t b)) → Sle t b s a
turned false a false b h = let g : b ≤ a = nltb→le a b h in omega arith
turned false a true b h = omega arith
turned true a false b h = let g : a + b ≤ 0 = nltb→le 0 (a + b) h in omega arith
turned true a true b h = let g : a ≤ b = nltb→le b a h in omega arith

pub nlt→le : (x y : Float) → T (finite x) → T (finite y) → T (not (lt x y)) → T (le y x)
unfolding lt le
nlt→le nan y p q h = absurd p
nlt→le (inf s) y p q h = absurd p
nlt→le (fin s m e) nan p q h = absurd q
nlt→le (fin s m e) (inf t) p q h = absurd q
nlt→le (fin s m e) (fin t n d) p q h = sle→test t (n * up d * down e) s (m * up e * down d) (turned s (m * up e * down d) t (n * up d * down e) h)

pub le_self : (x : Float) → T (finite x) → T (le x x)
unfolding le
le_self nan p = absurd p
le_self (inf s) p = absurd p
le_self (fin s m e) p = sle→test s (m * up e * down e) s (m * up e * down e) (le_refl (plus s (m * up e * down e) + less s (m * up e * down e)))

pub le_trans_held : {f : Format} {x y z : Float} → Held f x → Held f y → Held f z → T (le x y) → T (le y z) → T (le x z)
le_trans_held {f} {x} {y} {z} h k g a b = sle→le h g (chain (pv f x) (nv f x) (pv f y) (nv f y) (pv f z) (nv f z) (le→sle h k a) (le→sle k g b))
  where
    chain : (px nx py ny pz nz : ℕ) → px + ny ≤ py + nx → py + nz ≤ pz + ny → px + nz ≤ pz + nx
    chain px nx py ny pz nz i j = omega arith

-- ---- two roundings of one number, up to its sign, are of one size
double_neg : (x : Float) → neg (neg x) ≡ x
unfolding neg
double_neg nan = refl
double_neg (inf true) = refl
double_neg (inf false) = refl
double_neg (fin true m e) = refl
double_neg (fin false m e) = refl

negated : (f : Format) (s : Bool) (a c : ℕ) → neg (round f s a c) ≡ round f (not s) a c
negated f true a c = ap neg (round_neg f a c) ∙ double_neg (round f false a c)
negated f false a c = sym (round_neg f a c)

pub rounds_neg : {f : Format} {z : Float} {p n c : ℕ} → Rounds f z p n c → Rounds f (neg z) n p c
rounds_neg {f} {z} {p} {n} {c} r = record { sign = not r.sign; num = r.num; is = ap neg r.is ∙ negated f r.sign r.num c; val = signs r.sign r.num r.val }
  where
    signs : (s : Bool) (a : ℕ) → plus s a + n ≡ p + less s a → plus (not s) a + p ≡ n + less (not s) a
    signs false a h = omega arith
    signs true a h = omega arith

same_size : (s : Bool) (a : ℕ) (t : Bool) (b : ℕ) → Sle s a t b → Sle t b s a → a ≡ b
same_size false a false b h k = omega arith
same_size false a true b h k = omega arith
same_size true a false b h k = omega arith
same_size true a true b h k = omega arith

pub neg_mag : (f : Format) (x : Float) → mag f (neg x) ≡ mag f x
unfolding neg
neg_mag f nan = refl
neg_mag f (inf s) = refl
neg_mag f (fin s m e) = refl

pub rounds_mag : {f : Format} {y z : Float} {p n c : ℕ} → 0 < c → Held f y → Held f z → Rounds f y p n c → Rounds f z n p c → mag f y ≡ mag f z
rounds_mag {f} {y} {z} {p} {n} {c} C h k r t =
    let q = rounds_neg t in
    same_size (sgn y) (mag f y) (sgn (neg z)) (mag f (neg z)) (le→sle h (neg_held k) (rounds_mono C C r q (le_refl (p * c + n * c)))) (le→sle (neg_held k) h (rounds_mono C C q r (le_refl (p * c + n * c)))) ∙ neg_mag f z

pub sub_mag : {f : Format} {x y : Float} → Held f x → Held f y → Held f (sub f x y) → Held f (sub f y x) → mag f (sub f x y) ≡ mag f (sub f y x)
sub_mag {f} {x} {y} h k g o =
    rounds_mag (pow_pos (low f)) g o (sub_rounds h k)
    (subst (λ (p : ℕ). Rounds f (sub f y x) p (pv f x + nv f y) (2 ^ low f)) (add_comm (pv f y) (nv f x))
    (subst (λ (n : ℕ). Rounds f (sub f y x) (pv f y + nv f x) n (2 ^ low f)) (add_comm (nv f y) (pv f x)) (sub_rounds k h)))

-- ---- r, or the end of lo to hi that it is beyond
pub clamp_between : (lo hi r : Float) → T (finite lo) → T (finite hi) → T (finite r) → T (le lo hi)
    → T (le lo (cond (lt r lo) lo (cond (lt hi r) hi r))) × T (le (cond (lt r lo) lo (cond (lt hi r) hi r)) hi)
clamp_between lo hi r p q o l = go (lt r lo) (lt hi r) (nlt→le r lo o p) (nlt→le hi r q o)
  where
    go : (a b : Bool) → (T (not a) → T (le lo r)) → (T (not b) → T (le r hi)) → T (le lo (cond a lo (cond b hi r))) × T (le (cond a lo (cond b hi r)) hi)
    go true b h k = (le_self lo p, l)
    go false true h k = (l, le_self hi q)
    go false false h k = (h tt, k tt)
