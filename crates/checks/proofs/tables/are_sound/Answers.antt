use Rattle.std.proofs.Common.{rules, ◌≡◌, ℕ, ◌<◌, Bool, true, false, refl, length, get_or, subst, arith}
use Rattle.std.specs.Bool.{MatchBool}
use Rattle.std.specs.List.{range_with_len, AllWithin, HoldsAt}
use Rattle.std.proofs.lemmas.Iterator.{cases_from_all, YieldsList-from_range, serves_from_Range}
use Rattle.std.proofs.lemmas.List.FromFn.{length-range_with_len, get_or-range_with_len}
use mathlib.Core.Path.{◌∙◌}
use Rattle.checks.proofs.tables.are_sound.Goals as goal

-- what `all` tells of each number below n after a yes
each_passed : (Yes : ℕ → Type 0) (No : Type 0) (n : ℕ) (r : Bool) → r ≡ true → MatchBool r (AllWithin Yes (range_with_len 0 n) 0 (length (range_with_len 0 n))) No
    → (i : ℕ) → i < n → Yes i
each_passed Yes No n r e h i p =
    let q : get_or (range_with_len 0 n) i 0 ≡ i = get_or-range_with_len 0 n i 0 p ∙ omega arith in
    let a = subst (λ (b : Bool). MatchBool b (AllWithin Yes (range_with_len 0 n) 0 (length (range_with_len 0 n))) No) e h in
    rw q at (a i 0 (omega arith) (rw (length-range_with_len 0 n) p))

-- and of one of them after a no
failed_at : (No : ℕ → Type 0) (n k : ℕ) → k < length (range_with_len 0 n) → HoldsAt No (range_with_len 0 n) k → (i : ℕ) × (i < n) × No i
failed_at No n k h a =
    let p = rw (length-range_with_len 0 n) at h in
    let q : get_or (range_with_len 0 n) k 0 ≡ k = get_or-range_with_len 0 n k 0 p ∙ omega arith in
    (k, p, rw q at (a 0))

one_failed : (Yes : Type 0) (No : ℕ → Type 0) (n : ℕ) (r : Bool) → r ≡ false
    → MatchBool r Yes ((k : ℕ) × (k < length (range_with_len 0 n)) × HoldsAt No (range_with_len 0 n) k) → (i : ℕ) × (i < n) × No i
one_failed Yes No n r e h =
    let a = subst (λ (b : Bool). MatchBool b Yes ((k : ℕ) × (k < length (range_with_len 0 n)) × HoldsAt No (range_with_len 0 n) k)) e h in
    failed_at No n a.0 a.1 a.2

pub all-requires-clause-callable : goal.all-requires-clause-callable
all-requires-clause-callable g c = serves_from_Range (λ x q k. search rules) (λ x a b. c.requires x b)

pub returns : goal.returns
returns g c =
    let told = cases_from_all _ _ _ (λ k. goal.S-post g c.args.is_sound k true) (λ k. goal.S-post g c.args.is_sound k false) c.all.ensures.ran
    (YieldsList-from_range 0 _ _ refl (omega arith)) (λ x q k. search rules) (λ x q k. search rules) in
    record { yes = λ e. each_passed _ _ _ _ e told; no = λ e. one_failed _ _ _ _ e told }
