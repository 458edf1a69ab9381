-- Causes 1 and 3 of two stretches, test by test. Assumes nothing.
use Rattle.std.proofs.Common.{◌≡◌, ℕ, ◌+◌, ◌≤◌, ◌<◌, Bool, List, [], ◌∷◌, length, take, ltb, refl, sym, ap, ◌∙◌}
use borrow.Author.Tests.{lt-ltb, le-ltb}
use lib.Seq.{length-take-le}
use Rattle.compress.specs.declared.Refusal.{Refusal}
use Rattle.compress.specs.Refusals.{refusal_number}
use Rattle.checks.specs.Causes.{lower_of, count_cause, uses_cause}
use Rattle.checks.proofs.Lowest.{uses_front}
use Rattle.checks.proofs.Lying.{hit, bound_passed, bound_kept}
use Rattle.correction.specs.Correction.{stretches_cause}

module _ (edges : ℕ) (a : List ℕ) (n : ℕ) (b : List ℕ) (m : ℕ) where
  abbrev tests : List Bool
  tests = ltb (length a) n ∷ ltb (length b) m ∷ ltb 1024 (n + m) ∷ []

  pub first_lacking : length a < n → stretches_cause edges a n b m ≡ 1
  unfolding stretches_cause
  first_lacking h = hit tests _ 0 (lt-ltb _ _ h)

  pub second_lacking : length b < m → stretches_cause edges a n b m ≡ 1
  unfolding stretches_cause
  second_lacking h = hit tests _ 1 (lt-ltb _ _ h)

  module _ (la : n ≤ length a) (lb : m ≤ length b) (x y : List ℕ) (ex : x ≡ take n a) (ey : y ≡ take m b) where
    sizes : length x + length y ≡ n + m
    sizes = rw (ex, ey, length-take-le n a la, length-take-le m b lb) refl

    pub over : (r : Refusal) → refusal_number r ≡ count_cause 1024 (length x + length y) → refusal_number r ≡ stretches_cause edges a n b m
    unfolding stretches_cause
    over r e = let p = bound_passed r _ e in p.1 ∙ sym (hit tests _ 2 (ap (ltb 1024) (sym sizes) ∙ p.0))

    pub within : (c u v : ℕ) → 0 ≡ count_cause 1024 (length x + length y) → u ≡ uses_cause edges x (length x) → v ≡ uses_cause edges y (length y)
        → c ≡ lower_of u v → c ≡ stretches_cause edges a n b m
    unfolding stretches_cause
    within c u v q eu ev ec =
        let p : u ≡ uses_cause edges a n = eu ∙ rw ex (uses_front edges a n la) in
        let r : v ≡ uses_cause edges b m = ev ∙ rw ey (uses_front edges b m lb) in
        rw (le-ltb _ _ la, le-ltb _ _ lb, (ap (ltb 1024) (sym sizes) ∙ bound_kept _ q), ← p, ← r) ec
