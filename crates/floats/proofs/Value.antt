-- The signed value of a finite float, in units of its format's smallest value, and the order by it.
-- A signed number is written as a difference of two natural numbers, `plus s a - less s a`, of which one is 0, so that `omega` reads it.
-- `pv f x - nv f x` is the value of x. `Held f x` says that x is finite and that the format f holds it. Assumes nothing.
use Rattle.std.specs.Prelude.{◌≡◌, refl, ◌⊎◌, ℕ, zero, suc, ◌+◌, ◌-◌, ◌*◌, ◌%◌, ◌^◌, ◌≤◌, ◌<◌, Bool, true, false, ◌&&◌, ◌||◌, ℤ, pos, negsuc, T, leb, ltb, eqb, Float}
use Rattle.std.proofs.Common.{sym, ap, ◌∙◌, subst, inl, inr, zero-le, le_of_eq, le_of_lt, lt_of_lt_of_le, lt_of_le_of_lt, lt_of_not-le, not-le_of_lt, lt_irrefl, le_of_suc-le-suc, eq-or-lt_of_le, zero-lt-suc, zero-mul, mul-one, one-mul, mul_comm, mul_assoc, mul_left_comm, mul_right_comm, mul-pos, mul-le-mul_right, le_of_mul-le-mul_right, mul-lt-mul_of_pos_right, lt_of_mul-lt-mul_right, pow-suc, arith, ltb→lt, lt→ltb, leb→le, eqb→eq, pow-add, pow_pos}
use Rattle.std.proofs.Math.Nat.{eq_of_mul-eq-mul_right, pow-succ'}
use Rattle.std.proofs.Math.Pow.{pow-lt}
use Rattle.std.specs.Float.{nan, inf, fin, Format}
use Rattle.std.specs.Float.Ieee.{prec, emax, low, up, down, round, below, level, fits, le}
use Rattle.std.specs.Float.Ieee.Fits.{down_pos, and_i, and_l, and_r, eq→eqb, round-fits}
use Rattle.std.specs.Float.Ieee.Exact.{HasValue, round_exact}
use Rattle.std.specs.Float.Ieee.Scale.{finite}

-- ---- signed numbers
abbrev pub plus : Bool → ℕ → ℕ
plus false a = a
plus true a = 0

abbrev pub less : Bool → ℕ → ℕ
less false a = 0
less true a = a

-- ±a ≤ ±b
abbrev pub Sle : Bool → ℕ → Bool → ℕ → Type 0
Sle s a t b = plus s a + less t b ≤ plus t b + less s a

pub plus_mul : (s : Bool) (a k : ℕ) → plus s (a * k) ≡ plus s a * k
plus_mul false a k = refl
plus_mul true a k = sym (zero-mul k)

pub less_mul : (s : Bool) (a k : ℕ) → less s (a * k) ≡ less s a * k
less_mul true a k = refl
less_mul false a k = sym (zero-mul k)

pub scale : (s : Bool) (a : ℕ) (t : Bool) (b k : ℕ) → Sle s a t b → Sle s (a * k) t (b * k)
scale s a t b k h = omega (arith, mul-le-mul_right k h, plus_mul s a k, less_mul s a k, plus_mul t b k, less_mul t b k)

pub unscale : (s : Bool) (a : ℕ) (t : Bool) (b k : ℕ) → 0 < k → Sle s (a * k) t (b * k) → Sle s a t b
unscale s a t b k K h =
    let g : (plus s a + less t b) * k ≤ (plus t b + less s a) * k = omega (arith, h, plus_mul s a k, less_mul s a k, plus_mul t b k, less_mul t b k) in
    le_of_mul-le-mul_right g K

-- ---- the comparison of two finite floats is that of two signed numbers
or_split : (a b : Bool) → T (a || b) → T a ⊎ T b
or_split true b t = inl tt
or_split false b t = inr t

or_l : (a b : Bool) → T a → T (a || b)
or_l true b t = tt
or_l false b t = absurd t

or_r : (a b : Bool) → T b → T (a || b)
or_r true b t = tt
or_r false b t = t

le_or : (a b : ℕ) → T (ltb a b) ⊎ T (eqb a b && true) → a ≤ b
le_or a b (inl u) = le_of_lt (ltb→lt a b u)
le_or a b (inr u) = le_of_eq (eqb→eq a b (and_l (eqb a b) true u))

or_le : (a b : ℕ) → a ≤ b → T (ltb a b || (eqb a b && true))
or_le a b h = elim (eq-or-lt_of_le h) [ inl p ↦ or_r (ltb a b) (eqb a b && true) (and_i (eqb a b) true (eq→eqb p) tt) | inr q ↦ or_l (ltb a b) (eqb a b && true) (lt→ltb a b q) ]

pub test→sle : (s : Bool) (a : ℕ) (t : Bool) (b : ℕ) → T (below s a t b || level s a t b) → Sle s a t b
test→sle false a false b h = let g : a ≤ b = le_or a b (or_split (ltb a b) (eqb a b && true) h) in omega arith
test→sle false a true b h =
    let p : a ≡ b = eqb→eq a b (and_l (eqb a b) (eqb a 0) h) in
    let q : a ≡ 0 = eqb→eq a 0 (and_r (eqb a b) (eqb a 0) h) in
    omega arith
test→sle true a false b h = omega arith
test→sle true a true b h = let g : b ≤ a = back (or_split (ltb b a) (eqb a b && true) h) in omega arith
  where
    back : T (ltb b a) ⊎ T (eqb a b && true) → b ≤ a
    back (inl u) = le_of_lt (ltb→lt b a u)
    back (inr u) = le_of_eq (sym (eqb→eq a b (and_l (eqb a b) true u)))

both_zero : (a b : ℕ) → (0 ≡ a + b) ⊎ (0 < a + b) → T (ltb 0 (a + b) || (eqb a b && eqb a 0))
both_zero a b (inl e) =
    let p : a ≡ b = omega arith in
    let q : a ≡ 0 = omega arith in
    or_r (ltb 0 (a + b)) (eqb a b && eqb a 0) (and_i (eqb a b) (eqb a 0) (eq→eqb p) (eq→eqb q))
both_zero a b (inr l) = or_l (ltb 0 (a + b)) (eqb a b && eqb a 0) (lt→ltb 0 (a + b) l)

pub sle→test : (s : Bool) (a : ℕ) (t : Bool) (b : ℕ) → Sle s a t b → T (below s a t b || level s a t b)
sle→test false a false b h = or_le a b (omega arith)
sle→test false a true b h =
    let p : a ≡ b = omega arith in
    let q : a ≡ 0 = omega arith in
    and_i (eqb a b) (eqb a 0) (eq→eqb p) (eq→eqb q)
sle→test true a false b h = both_zero a b (eq-or-lt_of_le zero-le)
sle→test true a true b h = elim (eq-or-lt_of_le g) [
  | inl p ↦ or_r (ltb b a) (eqb a b && true) (and_i (eqb a b) true (eq→eqb (sym p)) tt)
  | inr q ↦ or_l (ltb b a) (eqb a b && true) (lt→ltb b a q)
]
  where
    g : b ≤ a
    g = omega arith

-- ---- a finite float's sign, and its magnitude in units: 2 ^ e is 2 ^ place e units
abbrev pub sgn : Float → Bool
sgn nan = false
sgn (inf s) = s
sgn (fin s m e) = s

abbrev pub place : ℕ → ℤ → ℕ
place l (pos k) = k + l
place l (negsuc k) = l - suc k

abbrev pub mag : Format → Float → ℕ
mag f nan = 0
mag f (inf s) = 0
mag f (fin s m e) = m * 2 ^ place (low f) e

abbrev pub pv : Format → Float → ℕ
pv f x = plus (sgn x) (mag f x)

abbrev pub nv : Format → Float → ℕ
nv f x = less (sgn x) (mag f x)

-- x is finite, and f holds it
pub record Held (f : Format) (x : Float) : Type 0 where
  pub fit : T (fits f x)
  pub bounded : T (finite x)

-- ---- what `fits` says
pow_le_back : (a l : ℕ) → 2 ^ a ≤ 2 ^ l → a ≤ l
pow_le_back a l h = le_of_suc-le-suc (lt_of_not-le (λ (g : suc l ≤ a). not-le_of_lt (pow-lt g) h))

two_up : (p : ℕ) → 0 < p → 2 * p ≡ 1 → ⊥
two_up p h e = omega arith

flat : (e : ℤ) → up e * down e ≡ 1 → e ≡ pos 0
flat (pos zero) h = refl
flat (pos (suc k)) h = absurd (two_up (2 ^ k) (pow_pos k) (sym (pow-succ' 2 k) ∙ sym (mul-one (2 ^ suc k)) ∙ h))
flat (negsuc k) h = absurd (two_up (2 ^ k) (pow_pos k) (sym (pow-succ' 2 k) ∙ sym (one-mul (2 ^ suc k)) ∙ h))

-- the one way to write a number: an odd m, or 0 with the exponent 0
abbrev Single : ℕ → ℤ → Type 0
Single zero e = e ≡ pos 0
Single (suc m) e = suc m % 2 ≡ 1

record Says (f : Format) (m : ℕ) (e : ℤ) : Type 0 where
  single : Single m e
  short : m < 2 ^ prec f
  fine : down e ≤ 2 ^ low f
  under : m * up e < 2 ^ suc (emax f) * down e

says : (f : Format) (s : Bool) (m : ℕ) (e : ℤ) → T (fits f (fin s m e)) → Says f m e
unfolding fits
says f s zero e t =
    let z : e ≡ pos 0 = flat e (eqb→eq (up e * down e) 1 t) in
    record {
      single = z;
      short = pow_pos (prec f);
      fine = subst (λ (d : ℤ). down d ≤ 2 ^ low f) (sym z) (pow_pos (low f));
      under = subst (λ (d : ℤ). 0 * up d < 2 ^ suc (emax f) * down d) (sym z) (mul-pos (pow_pos (suc (emax f))) (zero-lt-suc 0));
    }
says f s (suc m) e t =
    let a : Bool = eqb (suc m % 2) 1 in
    let b : Bool = ltb (suc m) (2 ^ prec f) in
    let c : Bool = leb (down e) (2 ^ low f) in
    let d : Bool = ltb (suc m * up e) (2 ^ suc (emax f) * down e) in
    let t2 : T (a && b && c) = and_l (a && b && c) d t in
    let t1 : T (a && b) = and_l (a && b) c t2 in
    record {
      single = eqb→eq (suc m % 2) 1 (and_l a b t1);
      short = ltb→lt (suc m) (2 ^ prec f) (and_r a b t1);
      fine = leb→le (down e) (2 ^ low f) (and_r (a && b) c t2);
      under = ltb→lt (suc m * up e) (2 ^ suc (emax f) * down e) (and_r (a && b && c) d t);
    }

-- ---- the value
rejoin : (l k : ℕ) → k ≤ l → l - k + k ≡ l
rejoin l k h = omega arith

pub place_val : (l m : ℕ) (e : ℤ) → down e ≤ 2 ^ l → m * up e * 2 ^ l ≡ m * 2 ^ place l e * down e
place_val l m (pos k) h = mul_assoc m (2 ^ k) (2 ^ l) ∙ ap (λ (x : ℕ). m * x) (sym (pow-add 2 k l)) ∙ sym (mul-one (m * 2 ^ (k + l)))
place_val l m (negsuc k) h =
    ap (λ (x : ℕ). x * 2 ^ l) (mul-one m)
    ∙ ap (λ (x : ℕ). m * x) (ap (λ (x : ℕ). 2 ^ x) (sym (rejoin l (suc k) (pow_le_back (suc k) l h))) ∙ pow-add 2 (l - suc k) (suc k))
    ∙ sym (mul_assoc m (2 ^ (l - suc k)) (2 ^ suc k))

pub fine_of : (f : Format) (s : Bool) (m : ℕ) (e : ℤ) → Held f (fin s m e) → down e ≤ 2 ^ low f
fine_of f s m e h = (says f s m e h.fit).fine

pub short_of : (f : Format) (s : Bool) (m : ℕ) (e : ℤ) → Held f (fin s m e) → m < 2 ^ prec f
short_of f s m e h = (says f s m e h.fit).short

pub mag_lt : {f : Format} {x : Float} → Held f x → mag f x < 2 ^ (low f + suc (emax f))
mag_lt {f} {x = nan} h = absurd h.bounded
mag_lt {f} {x = inf s} h = absurd h.bounded
mag_lt {f} {x = fin s m e} h =
    let g = says f s m e h.fit in
    lt_of_mul-lt-mul_right (down e)
    (lt_of_le_of_lt (le_of_eq (sym (place_val (low f) m e g.fine)))
    (lt_of_lt_of_le (mul-lt-mul_of_pos_right g.under (pow_pos (low f)))
    (le_of_eq (simp (pow-add, mul_comm, mul_left_comm)))))

-- ---- the order
pub crossed : (f : Format) (m : ℕ) (e d : ℤ) → down e ≤ 2 ^ low f → m * up e * down d * 2 ^ low f ≡ m * 2 ^ place (low f) e * (down e * down d)
crossed f m e d h = mul_right_comm (m * up e) (down d) (2 ^ low f) ∙ ap (λ (z : ℕ). z * down d) (place_val (low f) m e h) ∙ mul_assoc (m * 2 ^ place (low f) e) (down e) (down d)

pub le→sle : {f : Format} {x y : Float} → Held f x → Held f y → T (le x y) → Sle (sgn x) (mag f x) (sgn y) (mag f y)
unfolding le
le→sle {f} {x = nan} {y} h k t = absurd h.bounded
le→sle {f} {x = inf s} {y} h k t = absurd h.bounded
le→sle {f} {x = fin s m e} {y = nan} h k t = absurd k.bounded
le→sle {f} {x = fin s m e} {y = inf u} h k t = absurd k.bounded
le→sle {f} {x = fin s m e} {y = fin u n d} h k t =
    unscale s (mag f (fin s m e)) u (mag f (fin u n d)) (down e * down d) (mul-pos (down_pos e) (down_pos d))
    (subst (λ (z : ℕ). Sle s z u (n * 2 ^ place (low f) d * (down e * down d))) (crossed f m e d (says f s m e h.fit).fine)
    (subst (λ (z : ℕ). Sle s (m * up e * down d * 2 ^ low f) u z) (crossed f n d e (says f u n d k.fit).fine ∙ ap (λ (z : ℕ). n * 2 ^ place (low f) d * z) (mul_comm (down d) (down e)))
    (scale s (m * up e * down d) u (n * up d * down e) (2 ^ low f) (test→sle s (m * up e * down d) u (n * up d * down e) t))))

pub sle→le : {f : Format} {x y : Float} → Held f x → Held f y → Sle (sgn x) (mag f x) (sgn y) (mag f y) → T (le x y)
unfolding le
sle→le {f} {x = nan} {y} h k t = absurd h.bounded
sle→le {f} {x = inf s} {y} h k t = absurd h.bounded
sle→le {f} {x = fin s m e} {y = nan} h k t = absurd k.bounded
sle→le {f} {x = fin s m e} {y = inf u} h k t = absurd k.bounded
sle→le {f} {x = fin s m e} {y = fin u n d} h k t =
    sle→test s (m * up e * down d) u (n * up d * down e)
    (unscale s (m * up e * down d) u (n * up d * down e) (2 ^ low f) (pow_pos (low f))
    (subst (λ (z : ℕ). Sle s z u (n * up d * down e * 2 ^ low f)) (sym (crossed f m e d (says f s m e h.fit).fine))
    (subst (λ (z : ℕ). Sle s (m * 2 ^ place (low f) e * (down e * down d)) u z) (sym (crossed f n d e (says f u n d k.fit).fine ∙ ap (λ (z : ℕ). n * 2 ^ place (low f) d * z) (mul_comm (down d) (down e))))
    (scale s (m * 2 ^ place (low f) e) u (n * 2 ^ place (low f) d) (down e * down d) t))))

-- ---- a value is written in one way
even_odd : (m t : ℕ) → m % 2 ≡ 1 → m ≡ 2 * t → ⊥
even_odd m t o h = omega arith

odd_pow : (m n a b : ℕ) → m % 2 ≡ 1 → n % 2 ≡ 1 → m * 2 ^ a ≡ n * 2 ^ b → (m ≡ n) × (a ≡ b)
odd_pow m n zero zero o p h = (sym (mul-one m) ∙ h ∙ mul-one n, refl)
odd_pow m n zero (suc b) o p h = absurd (even_odd m (n * 2 ^ b) o (sym (mul-one m) ∙ h ∙ ap (λ (x : ℕ). n * x) (pow-succ' 2 b) ∙ mul_left_comm n 2 (2 ^ b)))
odd_pow m n (suc a) zero o p h = absurd (even_odd n (m * 2 ^ a) p (sym (mul-one n) ∙ sym h ∙ ap (λ (x : ℕ). m * x) (pow-succ' 2 a) ∙ mul_left_comm m 2 (2 ^ a)))
odd_pow m n (suc a) (suc b) o p h =
    let r = odd_pow m n a b o p (eq_of_mul-eq-mul_right 2 (zero-lt-suc 1) (m * 2 ^ a) (n * 2 ^ b)
    (mul_assoc m (2 ^ a) 2 ∙ ap (λ (x : ℕ). m * x) (sym (pow-suc 2 a)) ∙ h ∙ ap (λ (x : ℕ). n * x) (pow-suc 2 b) ∙ sym (mul_assoc n (2 ^ b) 2))) in
    (r.0, ap suc r.1)

place_inj : (l : ℕ) (e d : ℤ) → down e ≤ 2 ^ l → down d ≤ 2 ^ l → place l e ≡ place l d → e ≡ d
place_inj l (pos a) (pos b) h k p = let q : a ≡ b = omega arith in ap pos q
place_inj l (pos a) (negsuc b) h k p = let z : ◌≡◌ {A = ℕ} 0 1 = omega (arith, pow_le_back (suc b) l k) in absurd (omega arith)
place_inj l (negsuc a) (pos b) h k p = let z : ◌≡◌ {A = ℕ} 0 1 = omega (arith, pow_le_back (suc a) l h) in absurd (omega arith)
place_inj l (negsuc a) (negsuc b) h k p = let q : a ≡ b = omega (arith, pow_le_back (suc a) l h, pow_le_back (suc b) l k) in ap negsuc q

not_zero : (m a b : ℕ) → suc m * 2 ^ a ≡ 0 * 2 ^ b → ⊥
not_zero m a b h = lt_irrefl 0 (subst (λ (x : ℕ). 0 < x) (h ∙ zero-mul (2 ^ b)) (mul-pos (zero-lt-suc m) (pow_pos a)))

pub unique : {f : Format} {x y : Float} → Held f x → Held f y → sgn x ≡ sgn y → mag f x ≡ mag f y → x ≡ y
unique {f} {x = nan} {y} h k p q = absurd h.bounded
unique {f} {x = inf s} {y} h k p q = absurd h.bounded
unique {f} {x = fin s m e} {y = nan} h k p q = absurd k.bounded
unique {f} {x = fin s m e} {y = inf u} h k p q = absurd k.bounded
unique {f} {x = fin s zero e} {y = fin u zero d} h k p q = λ i. fin (p i) zero (((says f s zero e h.fit).single ∙ sym (says f u zero d k.fit).single) i)
unique {f} {x = fin s zero e} {y = fin u (suc n) d} h k p q = absurd (not_zero n (place (low f) d) (place (low f) e) (sym q))
unique {f} {x = fin s (suc m) e} {y = fin u zero d} h k p q = absurd (not_zero m (place (low f) e) (place (low f) d) q)
unique {f} {x = fin s (suc m) e} {y = fin u (suc n) d} h k p q =
    let a = says f s (suc m) e h.fit in
    let b = says f u (suc n) d k.fit in
    let r = odd_pow (suc m) (suc n) (place (low f) e) (place (low f) d) a.single b.single q in
    let g = place_inj (low f) e d a.fine b.fine r.1 in
    λ i. fin (p i) (r.0 i) (g i)

-- ---- from any fraction over the units to the value
pub sgn_of : (f : Format) (x : Float) (s : Bool) (a : ℕ) → Held f x → HasValue x s a (2 ^ low f) → (sgn x ≡ s) × (mag f x ≡ a)
sgn_of f nan s a h v = absurd v
sgn_of f (inf u) s a h v = absurd v
sgn_of f (fin u m e) s a h v = (v.0, eq_of_mul-eq-mul_right (down e) (down_pos e) (mag f (fin u m e)) a (sym (place_val (low f) m e (says f u m e h.fit).fine) ∙ v.1))

bounded_of : (x : Float) (s : Bool) (a c : ℕ) → HasValue x s a c → T (finite x)
bounded_of nan s a c v = absurd v
bounded_of (inf u) s a c v = absurd v
bounded_of (fin u m e) s a c v = tt

-- ---- q * 2 ^ j units, with a q of no more digits than the format keeps, is a value of the format
pub record Is (f : Format) (x : Float) (s : Bool) (a : ℕ) : Type 0 where
  pub held : Held f x
  pub sign : sgn x ≡ s
  pub size : mag f x ≡ a

pub round_rep : (f : Format) (s : Bool) (q j : ℕ) → q < 2 ^ prec f → q * 2 ^ j < 2 ^ (low f + suc (emax f)) → Is f (round f s (q * 2 ^ j) (2 ^ low f)) s (q * 2 ^ j)
round_rep f s q j Q B =
    let v = round_exact f s (q * 2 ^ j) (2 ^ low f) q j (pow_pos (low f)) Q B refl in
    let z = round f s (q * 2 ^ j) (2 ^ low f) in
    let h : Held f z = record { fit = round-fits f s (q * 2 ^ j) (2 ^ low f); bounded = bounded_of z s (q * 2 ^ j) (2 ^ low f) v } in
    let g = sgn_of f z s (q * 2 ^ j) h v in
    record { held = h; sign = g.0; size = g.1 }

-- so `round` gives back each value of the format
pub round_self : {f : Format} {x : Float} → Held f x → round f (sgn x) (mag f x) (2 ^ low f) ≡ x
round_self {f} {x = nan} h = absurd h.bounded
round_self {f} {x = inf s} h = absurd h.bounded
round_self {f} {x = fin s m e} h =
    let i = round_rep f s m (place (low f) e) (says f s m e h.fit).short (mag_lt h) in
    unique i.held h i.sign i.size
