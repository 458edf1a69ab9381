-- The lowest cause wins: it is one of the causes, none is lower, and where it is 0 there is none.
-- Assumes nothing.
use mathlib.Core.Path.{◌≡◌, refl, ap, sym, ◌∙◌}
use mathlib.Core.List.{List}
use mathlib.Core.Logic.{◌⊎◌, inl, inr, ⊎_elim}
use Prim.Native.Nat.{ℕ, zero, suc, ◌+◌, ◌≤◌, ◌<◌, min}
use native.Mathlib.Nat.{eq-or-lt_of_le}
use native.Mathlib.Numerals.{add-one}
use native.Mathlib.Omega.{arith}
use native.Mathlib.Decide.{dec_le}
use lib.Dec.{eqb-suc-zero}
use lib.ListN.{length, take}
use Rattle.compress.specs.declared.Refusal.{Refusal}
use Rattle.compress.specs.Refusals.{refusal_number}
use Rattle.compress.proofs.Refused.{number_above}
use lib.Seq.{get_or-take, length-take-le}
use Rattle.checks.specs.Causes.{lower_of, lowest_of, uses_cause}

-- ---- the lower of two
-- the lower of two causes, each by another name
pub lower_same : {a b d x y : ℕ} → a ≡ x → b ≡ y → d ≡ lower_of a b → d ≡ lower_of x y
lower_same p q r = rw (r, p, q)

pub lower_first : (b : ℕ) → lower_of 0 b ≡ b
unfolding lower_of
lower_first b = refl

pub data Lower (a b r : ℕ) : Type 0 where
  none : a ≡ 0 → b ≡ 0 → r ≡ 0 → Lower a b r
  first : 0 < a → r ≡ a → ((b ≡ 0) ⊎ (a ≤ b)) → Lower a b r
  second : 0 < b → r ≡ b → ((a ≡ 0) ⊎ (b ≤ a)) → Lower a b r

pub lower_is : (a b : ℕ) → Lower a b (lower_of a b)
unfolding lower_of
lower_is zero zero = none refl refl refl
lower_is zero (suc b) = second (omega arith) refl (inl refl)
lower_is (suc a) zero = first (omega arith) (rw (eqb-suc-zero a)) (inl refl)
lower_is (suc a) (suc b) = rw (eqb-suc-zero a, eqb-suc-zero b) (by (dec_le a b))
  where
    by : Dec (a ≤ b) → Lower (suc a) (suc b) (min (suc a) (suc b))
    by (yes h) = first (omega arith) (omega arith) (inr (omega arith))
    by (no h) = second (omega arith) (omega (arith, h)) (inr (omega (arith, h)))

pub lower_none : (a b : ℕ) → lower_of a b ≡ 0 → (a ≡ 0) × (b ≡ 0)
lower_none a b e = by (lower_is a b)
  where
    by : Lower a b (lower_of a b) → (a ≡ 0) × (b ≡ 0)
    by (none p q r) = (p, q)
    by (first p q r) = absurd (omega arith)
    by (second p q r) = absurd (omega arith)

pub lower_last : (a : ℕ) → lower_of a 0 ≡ a
lower_last a = by (lower_is a 0)
  where
    by : Lower a 0 (lower_of a 0) → lower_of a 0 ≡ a
    by (none p q r) = omega arith
    by (first p q r) = q
    by (second p q r) = absurd (omega arith)

lower_more : (a b : ℕ) → lower_of (suc a) (suc b) ≡ suc (min a b)
unfolding lower_of
lower_more a b = rw (eqb-suc-zero a, eqb-suc-zero b) (omega arith)

pub lower_swap : (a b : ℕ) → lower_of a b ≡ lower_of b a
lower_swap zero b = rw (lower_first b, lower_last b)
lower_swap (suc a) zero = rw (lower_first (suc a), lower_last (suc a))
lower_swap (suc a) (suc b) = rw (lower_more a b, lower_more b a) (omega arith)

pub lower_join : (a b c : ℕ) → lower_of (lower_of a b) c ≡ lower_of a (lower_of b c)
lower_join zero b c = rw (lower_first b, lower_first (lower_of b c))
lower_join (suc a) zero c = rw (lower_last (suc a), lower_first c)
lower_join (suc a) (suc b) zero = rw (lower_last (lower_of (suc a) (suc b)), lower_last (suc b))
lower_join (suc a) (suc b) (suc c) = rw (lower_more a b, lower_more b c, lower_more (min a b) c, lower_more a (min b c)) (omega arith)

lower_pairs : (a b c d : ℕ) → lower_of (lower_of a b) (lower_of c d) ≡ lower_of (lower_of a c) (lower_of b d)
lower_pairs a b c d =
    lower_join a b (lower_of c d) ∙ ap (lower_of a) (sym (lower_join b c d) ∙ ap (λ x. lower_of x d) (lower_swap b c) ∙ lower_join c b d) ∙ sym (lower_join a c (lower_of b d))

-- of two refusals
pub lower_refusals : (x y r : Refusal) → refusal_number r ≡ min (refusal_number x) (refusal_number y) → refusal_number r ≡ lower_of (refusal_number x) (refusal_number y)
unfolding lower_of
lower_refusals x y r e =
    let p = number_above x in
    let q = number_above y in
    rw (p.1, q.1, eqb-suc-zero p.0, eqb-suc-zero q.0) (rw (← p.1, ← q.1) e)

-- ---- the lowest of many
pub lowest_turn : (f : ℕ → ℕ) (i least cause r : ℕ) → least ≡ lowest_of f i → cause ≡ f i → r ≡ lower_of least cause → r ≡ lowest_of f (i + 1)
unfolding lowest_of
lowest_turn f i least cause r p q e = rw (add-one i, ← p, ← q) e

pub lowest_start : (f : ℕ → ℕ) → 0 ≡ lowest_of f 0
unfolding lowest_of
lowest_start f = refl

last : (i n : ℕ) → i < suc n → (i ≡ n) ⊎ (i < n)
last i n h = eq-or-lt_of_le (less h)
  where
    less : i < suc n → i ≤ n
    less g = omega arith

-- of rows with two causes each it is the lower of the two lowest
pub lowest_both : (f g : ℕ → ℕ) (n : ℕ) → lowest_of (λ i. lower_of (f i) (g i)) n ≡ lower_of (lowest_of f n) (lowest_of g n)
unfolding lowest_of
lowest_both f g zero = sym (lower_first 0)
lowest_both f g (suc n) = ap (λ x. lower_of x (lower_of (f n) (g n))) (lowest_both f g n) ∙ lower_pairs (lowest_of f n) (lowest_of g n) (f n) (g n)

-- it is told by the first n causes alone
pub lowest_same : (f g : ℕ → ℕ) (n : ℕ) → ((i : ℕ) → i < n → f i ≡ g i) → lowest_of f n ≡ lowest_of g n
unfolding lowest_of
lowest_same f g zero h = refl
lowest_same f g (suc n) h = rw (lowest_same f g n (λ i p. h i (omega arith)), h n (omega arith))

-- where the lowest is 0, each is
pub lowest_none : (f : ℕ → ℕ) (n i : ℕ) → lowest_of f n ≡ 0 → i < n → f i ≡ 0
unfolding lowest_of
lowest_none f zero i e h = absurd (none h)
  where
    none : i < 0 → ⊥
    none g = omega arith
lowest_none f (suc n) i e h =
    let b = lower_none (lowest_of f n) (f n) e in
    ⊎_elim (λ (p : i ≡ n). rw p b.1) (λ l. lowest_none f n i b.0 l) (last i n h)

-- none is lower
pub lowest_least : (f : ℕ → ℕ) (n i : ℕ) → i < n → 0 < f i → (0 < lowest_of f n) × (lowest_of f n ≤ f i)
unfolding lowest_of
lowest_least f zero i h g = absurd (none h)
  where
    none : i < 0 → ⊥
    none g = omega arith
lowest_least f (suc n) i h g =
    ⊎_elim (λ (p : i ≡ n). here (rw p at g) (lower_is (lowest_of f n) (f n)) p) (λ l. there (lowest_least f n i l g) (lower_is (lowest_of f n) (f n))) (last i n h)
  where
    here : 0 < f n → Lower (lowest_of f n) (f n) (lower_of (lowest_of f n) (f n)) → i ≡ n
        → (0 < lower_of (lowest_of f n) (f n)) × (lower_of (lowest_of f n) (f n) ≤ f i)
    here k (none p q r) e = absurd (omega arith)
    here k (first p q r) e = rw e (omega arith, ⊎_elim (λ x. omega arith) (λ x. omega arith) r)
    here k (second p q r) e = rw e (omega arith, omega arith)

    there : (0 < lowest_of f n) × (lowest_of f n ≤ f i) → Lower (lowest_of f n) (f n) (lower_of (lowest_of f n) (f n))
        → (0 < lower_of (lowest_of f n) (f n)) × (lower_of (lowest_of f n) (f n) ≤ f i)
    there k (none p q r) = absurd (omega arith)
    there k (first p q r) = (omega arith, omega arith)
    there k (second p q r) = (omega arith, ⊎_elim (λ x. omega arith) (λ x. omega arith) r)

-- it is one of the causes
pub lowest_met : (f : ℕ → ℕ) (n : ℕ) → (lowest_of f n ≡ 0) ⊎ ((i : ℕ) × (i < n) × (lowest_of f n ≡ f i))
unfolding lowest_of
lowest_met f zero = inl refl
lowest_met f (suc n) = by (lowest_met f n) (lower_is (lowest_of f n) (f n))
  where
    by : (lowest_of f n ≡ 0) ⊎ ((i : ℕ) × (i < n) × (lowest_of f n ≡ f i)) → Lower (lowest_of f n) (f n) (lower_of (lowest_of f n) (f n))
        → (lower_of (lowest_of f n) (f n) ≡ 0) ⊎ ((i : ℕ) × (i < suc n) × (lower_of (lowest_of f n) (f n) ≡ f i))
    by k (none p q r) = inl r
    by k (first p q r) = ⊎_elim (λ z. absurd (omega arith)) (λ w. inr (w.0, omega arith, q ∙ w.2)) k
    by k (second p q r) = inr (n, omega arith, q)

-- ---- the front of a slice of uses
pub uses_front : (edges : ℕ) (us : List ℕ) (n : ℕ) → n ≤ length us → uses_cause edges (take n us) (length (take n us)) ≡ uses_cause edges us n
unfolding uses_cause
uses_front edges us n h =
    rw (length-take-le n us h) (lowest_same _ _ n (λ i p. rw (get_or-take n us i 0 p)))
