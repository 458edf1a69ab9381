-- Rounding of signed numbers. `Rounds f z p n c` says that z is the number (p - n) / c rounded to the format f; the sign of a zero is left open.
-- Each operation's result is such a z of its operands' values (`add_rounds`, `sub_rounds`, `mul_rounds`, `div_rounds`), each finite value is its own rounding (`rounds_self`),
-- and rounding keeps the order (`rounds_mono`), infinities included. What is left of a law on floats is then arithmetic of natural numbers. Assumes nothing.
use Rattle.std.specs.Prelude.{◌≡◌, refl, ℕ, zero, suc, ◌+◌, ◌-◌, ◌*◌, ◌^◌, ◌≤◌, ◌<◌, Bool, true, false, not, ◌||◌, cond, T, ltb, eqb, Float}
use Rattle.std.proofs.Common.{sym, ap, ◌∙◌, subst, inl, inr, zero-le, eq-zero-or-pos, lt_irrefl, zero-lt-suc, zero-mul, mul_comm, mul_assoc, mul_left_comm, mul-pos, le_of_mul-le-mul_right, arith, true≢false, ltb→lt, nltb→le, pow_pos}
use Rattle.std.proofs.Math.Nat.{eq_of_mul-eq-mul_right, mul-mul-mul_comm, mul-sub}
use Rattle.std.proofs.lemmas.Bool.{false≢true}
use Rattle.std.proofs.Math.Dec.{eqb-suc-zero}
use Rattle.std.specs.Float.{nan, inf, fin, Format}
use Rattle.std.specs.Float.Ieee.{prec, emax, low, unlike, up, down, odd, units, round, neg, sum, add, sub, mul, div, fits, le}
use Rattle.std.specs.Float.Ieee.Fits.{up_pos, down_pos, round_is, round-fits, neg-fits}
use Rattle.std.specs.Float.Ieee.Order.{round_mono, kept, drop}
use Rattle.std.specs.Float.Ieee.Scale.{finite, round_same}
use Rattle.floats.proofs.Value.{plus, less, Sle, sgn, place, mag, pv, nv, Held, Is, plus_mul, less_mul, test→sle, sle→test, sle→le, crossed, place_val, fine_of, round_rep, round_self}

-- ---- the sign of what is rounded
-- x is no NaN, and has the sign s
abbrev Signed : Bool → Float → Type 0
Signed s nan = ⊥
Signed s (inf t) = t ≡ s
Signed s (fin t m e) = t ≡ s

odd_signed : (d : ℕ) (s : Bool) (q k l : ℕ) → Signed s (odd d s q k l)
unfolding odd
odd_signed d s zero k l = refl
odd_signed d s (suc q) k l = refl

cond_signed : (s b : Bool) (x : Float) → Signed s x → Signed s (cond b x (inf s))
cond_signed s true x h = h
cond_signed s false x h = refl

units_signed : (f : Format) (s : Bool) (q k : ℕ) → Signed s (units f s q k)
unfolding units
units_signed f s q k = cond_signed s (ltb (q * 2 ^ k) (2 ^ (low f + suc (emax f)))) (odd (suc (prec f)) s q k (low f)) (odd_signed (suc (prec f)) s q k (low f))

round_signed : (f : Format) (s : Bool) (a c : ℕ) → Signed s (round f s a c)
round_signed f s a c = subst (λ (z : Float). Signed s z) (sym (round_is f s a c)) (units_signed f s (kept (prec f) (a * 2 ^ low f) c) (drop (prec f) (a * 2 ^ low f) c))

odd_neg : (d q k l : ℕ) → odd d true q k l ≡ neg (odd d false q k l)
unfolding odd neg
odd_neg d zero k l = refl
odd_neg d (suc q) k l = refl

cond_neg : (b : Bool) (x y : Float) → x ≡ neg y → cond b x (inf true) ≡ neg (cond b y (inf false))
unfolding neg
cond_neg true x y h = h
cond_neg false x y h = refl

units_neg : (f : Format) (q k : ℕ) → units f true q k ≡ neg (units f false q k)
unfolding units
units_neg f q k = cond_neg (ltb (q * 2 ^ k) (2 ^ (low f + suc (emax f)))) (odd (suc (prec f)) true q k (low f)) (odd (suc (prec f)) false q k (low f)) (odd_neg (suc (prec f)) q k (low f))

pub round_neg : (f : Format) (a c : ℕ) → round f true a c ≡ neg (round f false a c)
round_neg f a c = round_is f true a c ∙ units_neg f (kept (prec f) (a * 2 ^ low f) c) (drop (prec f) (a * 2 ^ low f) c) ∙ ap neg (sym (round_is f false a c))

-- ---- the order and the sign
flip : (s : Bool) (a : ℕ) (t : Bool) (b : ℕ) → Sle s a t b → Sle (not t) b (not s) a
flip false a false b h = omega arith
flip false a true b h = omega arith
flip true a false b h = omega arith
flip true a true b h = omega arith

pub le_neg : (x y : Float) → T (le x y) → T (le (neg y) (neg x))
unfolding le neg
le_neg nan y t = absurd t
le_neg (inf s) nan t = absurd (none s t)
  where
    none : (s : Bool) → T (false || false) → ⊥
    none s u = u
le_neg (inf true) (inf true) t = tt
le_neg (inf true) (inf false) t = tt
le_neg (inf false) (inf true) t = absurd t
le_neg (inf false) (inf false) t = tt
le_neg (inf true) (fin u n d) t = tt
le_neg (inf false) (fin u n d) t = absurd t
le_neg (fin s m e) nan t = absurd t
le_neg (fin s m e) (inf u) t = t
le_neg (fin s m e) (fin u n d) t =
    sle→test (not u) (n * up d * down e) (not s) (m * up e * down d) (flip s (m * up e * down d) u (n * up d * down e) (test→sle s (m * up e * down d) u (n * up d * down e) t))

across : (x y : Float) → Signed true x → Signed false y → T (le x y)
unfolding le
across nan y p q = absurd p
across (inf false) y p q = absurd (false≢true p)
across (inf true) nan p q = absurd q
across (inf true) (inf true) p q = tt
across (inf true) (inf false) p q = tt
across (inf true) (fin u n d) p q = tt
across (fin s m e) nan p q = absurd q
across (fin s m e) (inf true) p q = absurd (true≢false q)
across (fin s m e) (inf false) p q = tt
across (fin false m e) (fin u n d) p q = absurd (false≢true p)
across (fin true m e) (fin true n d) p q = absurd (true≢false q)
across (fin true m e) (fin false n d) p q = sle→test true (m * up e * down d) false (n * up d * down e) (zero-le)

pub finite_between : (x y z : Float) → T (finite x) → T (finite z) → T (le x y) → T (le y z) → T (finite y)
unfolding le
finite_between nan y z p q h k = absurd p
finite_between (inf s) y z p q h k = absurd p
finite_between (fin s m e) nan z p q h k = absurd h
finite_between (fin s m e) (inf true) z p q h k = absurd h
finite_between (fin s m e) (inf false) nan p q h k = absurd q
finite_between (fin s m e) (inf false) (inf t) p q h k = absurd q
finite_between (fin s m e) (inf false) (fin t n d) p q h k = absurd k
finite_between (fin s m e) (fin u n d) z p q h k = tt

pub held_between : {f : Format} {x y z : Float} → Held f x → Held f z → T (fits f y) → T (le x y) → T (le y z) → Held f y
held_between {f} {x} {y} {z} p q t h k = record { fit = t; bounded = finite_between x y z p.bounded q.bounded h k }

-- ---- rounding keeps the order
nothing : (a k : ℕ) → 0 < k → a * k ≡ 0 → a ≡ 0
nothing a k K h = elim (eq-zero-or-pos a) [ inl z ↦ z | inr p ↦ absurd (lt_irrefl 0 (subst (λ (x : ℕ). 0 < x) h (mul-pos p K))) ]

round_zero : (f : Format) (s : Bool) (a c : ℕ) → 0 < c → a ≡ 0 → Is f (round f s a c) s 0
round_zero f s a c C z =
    subst (λ (x : Float). Is f x s 0) (round_same f s 0 (2 ^ low f) a c (pow_pos (low f)) C (zero-mul c ∙ sym (zero-mul (2 ^ low f)) ∙ ap (λ (x : ℕ). x * 2 ^ low f) (sym z)))
    (round_rep f s 0 0 (pow_pos (prec f)) (pow_pos (low f + suc (emax f))))

-- two values, by what they are
pub is_le : {f : Format} {x y : Float} {s : Bool} {a : ℕ} {t : Bool} {b : ℕ} → Is f x s a → Is f y t b → Sle s a t b → T (le x y)
is_le {f} {x} {y} {s} {a} {t} {b} i j h = sle→le i.held j.held (rw (i.sign, i.size, j.sign, j.size) h)

pub signed_mono : (f : Format) (s : Bool) (a c : ℕ) (t : Bool) (b d : ℕ) → 0 < c → 0 < d → Sle s (a * d) t (b * c) → T (le (round f s a c) (round f t b d))
signed_mono f false a c false b d C D h = round_mono f a c b d C D (omega arith)
signed_mono f false a c true b d C D h =
    let p : a * d ≡ 0 = omega arith in
    let q : b * c ≡ 0 = omega arith in
    let x = round_zero f false a c C (nothing a d D p) in
    let y = round_zero f true b d D (nothing b c C q) in
    is_le x y zero-le
signed_mono f true a c false b d C D h = across (round f true a c) (round f false b d) (round_signed f true a c) (round_signed f false b d)
signed_mono f true a c true b d C D h =
    rw (round_neg f a c, round_neg f b d) (le_neg (round f false b d) (round f false a c) (round_mono f b d a c D C (omega arith)))

-- ---- z is (p - n) / c, rounded
pub record Rounds (f : Format) (z : Float) (p n c : ℕ) : Type 0 where
  pub sign : Bool
  pub num : ℕ
  pub is : z ≡ round f sign num c
  pub val : plus sign num + n ≡ p + less sign num

pub rounds_fits : {f : Format} {z : Float} {p n c : ℕ} → Rounds f z p n c → T (fits f z)
rounds_fits {f} {z} {p} {n} {c} r = rw r.is (round-fits f r.sign r.num c)

pub rounds_mono : {f : Format} {x : Float} {p n c : ℕ} {y : Float} {q m d : ℕ} → 0 < c → 0 < d → Rounds f x p n c → Rounds f y q m d → p * d + m * c ≤ q * c + n * d → T (le x y)
rounds_mono {f} {x} {p} {n} {c} {y} {q} {m} {d} C D r t h =
    rw (r.is, t.is) (signed_mono f r.sign r.num c t.sign t.num d C D
    (omega (arith, ap (λ (k : ℕ). k * d) r.val, ap (λ (k : ℕ). k * c) t.val, plus_mul r.sign r.num d, less_mul r.sign r.num d, plus_mul t.sign t.num c, less_mul t.sign t.num c, h)))

pub rounds_self : {f : Format} {x : Float} → Held f x → Rounds f x (pv f x) (nv f x) (2 ^ low f)
rounds_self {f} {x} h = record { sign = sgn x; num = mag f x; is = sym (round_self h); val = refl }

-- ---- the same fraction over another divisor
mul_sub_right : (a b k : ℕ) → (a - b) * k ≡ a * k - b * k
mul_sub_right a b k = mul_comm (a - b) k ∙ mul-sub k a b ∙ ap (λ (z : ℕ). z - k * b) (mul_comm k a) ∙ ap (λ (z : ℕ). a * k - z) (mul_comm k b)

rescale_at : (f : Format) (z : Float) (p n c q m d : ℕ) (s : Bool) (a : ℕ) → 0 < c → 0 < d → z ≡ round f s a c → plus s a + n ≡ p + less s a → p * d + m * c ≡ q * c + n * d → Rounds f z q m d
rescale_at f z p n c q m d false a C D e v h =
    let w : a * d + n * d ≡ p * d = omega (arith, ap (λ (k : ℕ). k * d) v) in
    let g : m * c ≤ q * c = omega arith in
    let l : m ≤ q = le_of_mul-le-mul_right g C in
    record { sign = false; num = q - m; is = e ∙ round_same f false a c (q - m) d C D (rw (mul_sub_right q m c) (omega arith)); val = omega arith }
rescale_at f z p n c q m d true a C D e v h =
    let w : n * d ≡ p * d + a * d = omega (arith, ap (λ (k : ℕ). k * d) v) in
    let g : q * c ≤ m * c = omega arith in
    let l : q ≤ m = le_of_mul-le-mul_right g C in
    record { sign = true; num = m - q; is = e ∙ round_same f true a c (m - q) d C D (rw (mul_sub_right m q c) (omega arith)); val = omega arith }

pub rescale : {f : Format} {z : Float} {p n c : ℕ} (q m d : ℕ) → 0 < c → 0 < d → p * d + m * c ≡ q * c + n * d → Rounds f z p n c → Rounds f z q m d
rescale {f} {z} {p} {n} {c} q m d C D h r = rescale_at f z p n c q m d r.sign r.num C D r.is r.val h

-- ---- the sum
sum_rounds : (f : Format) (s : Bool) (a : ℕ) (t : Bool) (b c : ℕ) → Rounds f (sum f s a t b c) (plus s a + plus t b) (less s a + less t b) c
unfolding sum
sum_rounds f false a false b c = record { sign = false; num = a + b; is = refl; val = omega arith }
sum_rounds f true a true b c = record { sign = true; num = a + b; is = refl; val = omega arith }
sum_rounds f false a true b c = go (ltb a b) (ltb→lt a b) (nltb→le a b)
  where
    go : (k : Bool) → (T k → a < b) → (T (not k) → b ≤ a) → Rounds f (cond k (round f true (b - a) c) (round f false (a - b) c)) (a + 0) (0 + b) c
    go true h g = let l : a < b = h tt in record { sign = true; num = b - a; is = refl; val = omega arith }
    go false h g = let l : b ≤ a = g tt in record { sign = false; num = a - b; is = refl; val = omega arith }
sum_rounds f true a false b c = go (ltb a b) (ltb→lt a b) (nltb→le a b) (ltb b a) (ltb→lt b a) (nltb→le b a)
  where
    go : (k : Bool) → (T k → a < b) → (T (not k) → b ≤ a) → (j : Bool) → (T j → b < a) → (T (not j) → a ≤ b) → Rounds f (cond k (round f false (b - a) c) (round f j (a - b) c)) (0 + b) (a + 0) c
    go true h g j i o = let l : a < b = h tt in record { sign = false; num = b - a; is = refl; val = omega arith }
    go false h g true i o = let l : b < a = i tt in record { sign = true; num = a - b; is = refl; val = omega arith }
    go false h g false i o =
        let l : b ≤ a = g tt in
        let r : a ≤ b = o tt in
        record { sign = false; num = a - b; is = refl; val = omega arith }

plus_cross : (s : Bool) (a u b k : ℕ) → a * u ≡ b * k → plus s a * u ≡ plus s b * k
plus_cross s a u b k h = sym (plus_mul s a u) ∙ ap (λ (z : ℕ). plus s z) h ∙ plus_mul s b k

less_cross : (s : Bool) (a u b k : ℕ) → a * u ≡ b * k → less s a * u ≡ less s b * k
less_cross s a u b k h = sym (less_mul s a u) ∙ ap (λ (z : ℕ). less s z) h ∙ less_mul s b k

pub add_rounds : {f : Format} {x y : Float} → Held f x → Held f y → Rounds f (add f x y) (pv f x + pv f y) (nv f x + nv f y) (2 ^ low f)
unfolding add
add_rounds {f} {x = nan} {y} h k = absurd h.bounded
add_rounds {f} {x = inf s} {y} h k = absurd h.bounded
add_rounds {f} {x = fin s m e} {y = nan} h k = absurd k.bounded
add_rounds {f} {x = fin s m e} {y = inf t} h k = absurd k.bounded
add_rounds {f} {x = fin s m e} {y = fin t n d} h k =
    let A = m * up e * down d in
    let B = n * up d * down e in
    let C = down e * down d in
    let a = mag f (fin s m e) in
    let b = mag f (fin t n d) in
    let i : A * 2 ^ low f ≡ a * C = crossed f m e d (fine_of f s m e h) in
    let j : B * 2 ^ low f ≡ b * C = crossed f n d e (fine_of f t n d k) ∙ ap (λ (z : ℕ). b * z) (mul_comm (down d) (down e)) in
    rescale (plus s a + plus t b) (less s a + less t b) (2 ^ low f) (mul-pos (down_pos e) (down_pos d)) (pow_pos (low f))
    (together (plus s A) (plus t B) (less s A) (less t B) C (plus s a) (plus t b) (less s a) (less t b) (2 ^ low f)
    (plus_cross s A (2 ^ low f) a C i) (plus_cross t B (2 ^ low f) b C j) (less_cross s A (2 ^ low f) a C i) (less_cross t B (2 ^ low f) b C j))
    (sum_rounds f s A t B C)
  where
    together : (p q n m c p' q' n' m' u : ℕ) → p * u ≡ p' * c → q * u ≡ q' * c → n * u ≡ n' * c → m * u ≡ m' * c → (p + q) * u + (n' + m') * c ≡ (p' + q') * c + (n + m) * u
    together p q n m c p' q' n' m' u a b c' d' = omega arith

-- ---- the difference
pub neg_held : {f : Format} {x : Float} → Held f x → Held f (neg x)
unfolding neg
neg_held {f} {x = nan} h = h
neg_held {f} {x = inf s} h = absurd h.bounded
neg_held {f} {x = fin s m e} h = record { fit = neg-fits f (fin s m e) h.fit; bounded = tt }

pub neg_pv : {f : Format} {x : Float} → Held f x → pv f (neg x) ≡ nv f x
unfolding neg
neg_pv {f} {x = nan} h = refl
neg_pv {f} {x = inf s} h = absurd h.bounded
neg_pv {f} {x = fin true m e} h = refl
neg_pv {f} {x = fin false m e} h = refl

pub neg_nv : {f : Format} {x : Float} → Held f x → nv f (neg x) ≡ pv f x
unfolding neg
neg_nv {f} {x = nan} h = refl
neg_nv {f} {x = inf s} h = absurd h.bounded
neg_nv {f} {x = fin true m e} h = refl
neg_nv {f} {x = fin false m e} h = refl

pub sub_rounds : {f : Format} {x y : Float} → Held f x → Held f y → Rounds f (sub f x y) (pv f x + nv f y) (nv f x + pv f y) (2 ^ low f)
unfolding sub
sub_rounds {f} {x} {y} h k =
    subst (λ (z : ℕ). Rounds f (add f x (neg y)) (pv f x + z) (nv f x + pv f y) (2 ^ low f)) (neg_pv k)
    (subst (λ (z : ℕ). Rounds f (add f x (neg y)) (pv f x + pv f (neg y)) (nv f x + z) (2 ^ low f)) (neg_nv k) (add_rounds h (neg_held k)))

-- ---- the product
pub mul_is : {f : Format} {x y : Float} → Held f x → Held f y → mul f x y ≡ round f (unlike (sgn x) (sgn y)) (mag f x * mag f y) (2 ^ low f * 2 ^ low f)
unfolding mul
mul_is {f} {x = nan} {y} h k = absurd h.bounded
mul_is {f} {x = inf s} {y} h k = absurd h.bounded
mul_is {f} {x = fin s m e} {y = nan} h k = absurd k.bounded
mul_is {f} {x = fin s m e} {y = inf t} h k = absurd k.bounded
mul_is {f} {x = fin s m e} {y = fin t n d} h k =
    let u = 2 ^ low f in
    let a = mag f (fin s m e) in
    let b = mag f (fin t n d) in
    round_same f (unlike s t) (m * up e * (n * up d)) (down e * down d) (a * b) (u * u) (mul-pos (down_pos e) (down_pos d)) (mul-pos (pow_pos (low f)) (pow_pos (low f)))
    (mul-mul-mul_comm (m * up e) (n * up d) u u
    ∙ ap (λ (z : ℕ). z * (n * up d * u)) (place_val (low f) m e (fine_of f s m e h))
    ∙ ap (λ (z : ℕ). a * down e * z) (place_val (low f) n d (fine_of f t n d k))
    ∙ mul-mul-mul_comm a (down e) b (down d))

pub mul_rounds : {f : Format} {x y : Float} → Held f x → Held f y → Rounds f (mul f x y) (pv f x * pv f y + nv f x * nv f y) (pv f x * nv f y + nv f x * pv f y) (2 ^ low f * 2 ^ low f)
mul_rounds {f} {x} {y} h k = record { sign = unlike (sgn x) (sgn y); num = mag f x * mag f y; is = mul_is h k; val = signs (sgn x) (mag f x) (sgn y) (mag f y) }
  where
    signs : (s : Bool) (a : ℕ) (t : Bool) (b : ℕ) → plus (unlike s t) (a * b) + (plus s a * less t b + less s a * plus t b) ≡ plus s a * plus t b + less s a * less t b + less (unlike s t) (a * b)
    signs false a false b = omega arith
    signs false a true b = omega arith
    signs true a false b = omega arith
    signs true a true b = omega arith

-- ---- the quotient
quotient : (P Q a b de dd u : ℕ) → 0 < u → P * u ≡ a * de → Q * u ≡ b * dd → P * dd * b ≡ a * (Q * de)
quotient P Q a b de dd u U i j =
    let l : P * dd * b * u ≡ a * de * (dd * b) = simp (mul_assoc, mul_comm, mul_left_comm) (simp (mul_assoc, mul_comm, mul_left_comm) at (ap (λ (z : ℕ). z * (dd * b)) i)) in
    let r : a * (Q * de) * u ≡ a * de * (dd * b) = simp (mul_assoc, mul_comm, mul_left_comm) (simp (mul_assoc, mul_comm, mul_left_comm) at (ap (λ (z : ℕ). z * (a * de)) j)) in
    eq_of_mul-eq-mul_right u U (P * dd * b) (a * (Q * de)) (l ∙ sym r)

pub div_is : {f : Format} {x y : Float} → Held f x → Held f y → 0 < mag f y → div f x y ≡ round f (unlike (sgn x) (sgn y)) (mag f x) (mag f y)
unfolding div
div_is {f} {x = nan} {y} h k p = absurd h.bounded
div_is {f} {x = inf s} {y} h k p = absurd h.bounded
div_is {f} {x = fin s m e} {y = nan} h k p = absurd k.bounded
div_is {f} {x = fin s m e} {y = inf t} h k p = absurd k.bounded
div_is {f} {x = fin s m e} {y = fin t zero d} h k p = absurd (lt_irrefl 0 (subst (λ (z : ℕ). 0 < z) (zero-mul (2 ^ place (low f) d)) p))
div_is {f} {x = fin s m e} {y = fin t (suc n) d} h k p =
    ap (λ (c : Bool). cond c (cond (eqb m 0) nan (inf (unlike s t))) (round f (unlike s t) (m * up e * down d) (suc n * up d * down e))) (eqb-suc-zero n)
    ∙ round_same f (unlike s t) (m * up e * down d) (suc n * up d * down e) (mag f (fin s m e)) (mag f (fin t (suc n) d)) (mul-pos (mul-pos (zero-lt-suc n) (up_pos d)) (down_pos e)) p
    (quotient (m * up e) (suc n * up d) (mag f (fin s m e)) (mag f (fin t (suc n) d)) (down e) (down d) (2 ^ low f) (pow_pos (low f))
    (place_val (low f) m e (fine_of f s m e h)) (place_val (low f) (suc n) d (fine_of f t (suc n) d k)))

-- by a y above zero
pub div_rounds : {f : Format} {x y : Float} → Held f x → Held f y → sgn y ≡ false → 0 < mag f y → Rounds f (div f x y) (pv f x) (nv f x) (mag f y)
div_rounds {f} {x} {y} h k e p = record { sign = sgn x; num = mag f x; is = div_is h k p ∙ ap (λ (t : Bool). round f t (mag f x) (mag f y)) (ap (λ (t : Bool). unlike (sgn x) t) e ∙ alone (sgn x)); val = refl }
  where
    alone : (s : Bool) → unlike s false ≡ s
    alone true = refl
    alone false = refl

-- ---- what no rounding crosses: a value of the format
pub rounds_ge : {f : Format} {y : Float} {z : Float} {p n c : ℕ} → 0 < c → Held f y → Rounds f z p n c → pv f y * c + n * 2 ^ low f ≤ p * 2 ^ low f + nv f y * c → T (le y z)
rounds_ge {f} {y} {z} {p} {n} {c} C h r l = rounds_mono (pow_pos (low f)) C (rounds_self h) r l

pub rounds_le : {f : Format} {y : Float} {z : Float} {p n c : ℕ} → 0 < c → Held f y → Rounds f z p n c → p * 2 ^ low f + nv f y * c ≤ pv f y * c + n * 2 ^ low f → T (le z y)
rounds_le {f} {y} {z} {p} {n} {c} C h r l = rounds_mono C (pow_pos (low f)) r (rounds_self h) l
