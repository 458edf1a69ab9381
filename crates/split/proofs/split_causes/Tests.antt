-- Causes 1 and 3 of the face's wires and of those to be rebuilt, test by test. Assumes nothing.
use Rattle.std.proofs.Common.{◌≡◌, ℕ, ◌+◌, Bool, List, [], ◌∷◌, length, take, ltb, refl, sym, ap, ◌∙◌}
use Rattle.std.proofs.Common.{arith}
use borrow.Author.Tests.{lt-ltb, le-ltb}
use Rattle.compress.specs.declared.Refusal.{Refusal}
use Rattle.compress.specs.Refusals.{refusal_number}
use Rattle.compress.specs.Wires.{total}
use Rattle.rows.specs.declared.lent.Wires.{Wires}
use Rattle.rows.specs.Held.{all_uses}
use Rattle.checks.specs.Causes.{lower_of, count_cause, uses_cause}
use Rattle.checks.proofs.Lowest.{uses_front}
use Rattle.checks.proofs.Lying.{Lying, Lacking, many, no_lengths, no_uses, hit, bound_passed, bound_kept, all_size}
use Rattle.split.specs.split_causes.Causes.{split_wires_cause}

module _ (edges : ℕ) (f r : Wires) where
  abbrev n : ℕ
  n = total (take f.count f.lengths.now)

  abbrev m : ℕ
  m = total (take r.count r.lengths.now)

  abbrev tests : List Bool
  tests =
      ltb 64 (f.count + r.count) ∷ ltb (length f.lengths.now) f.count ∷ ltb (length r.lengths.now) r.count
      ∷ ltb 1024 (n + m) ∷ ltb (length f.uses.now) n ∷ ltb (length r.uses.now) m ∷ []

  abbrev pub cause : ℕ
  cause = split_wires_cause edges f.uses.now f.lengths.now f.count r.uses.now r.lengths.now r.count

  pub face_lacking : Lacking f → cause ≡ 1
  unfolding split_wires_cause
  face_lacking (many h) = hit tests _ 0 (lt-ltb 64 (f.count + r.count) (omega arith))
  face_lacking (no_lengths l h) = hit tests _ 1 (lt-ltb _ _ h)
  face_lacking (no_uses l k h) = hit tests _ 4 (lt-ltb _ _ h)

  pub rebuilt_lacking : Lacking r → cause ≡ 1
  unfolding split_wires_cause
  rebuilt_lacking (many h) = hit tests _ 0 (lt-ltb 64 (f.count + r.count) (omega arith))
  rebuilt_lacking (no_lengths l h) = hit tests _ 2 (lt-ltb _ _ h)
  rebuilt_lacking (no_uses l k h) = hit tests _ 5 (lt-ltb _ _ h)

  pub many_wires : (x : Refusal) → refusal_number x ≡ count_cause 64 (f.count + r.count) → refusal_number x ≡ cause
  unfolding split_wires_cause
  many_wires x e = let p = bound_passed x _ e in p.1 ∙ sym (hit tests _ 0 p.0)

  module _ (lf : Lying f) (lr : Lying r) (a b : List ℕ) (ea : a ≡ all_uses f) (eb : b ≡ all_uses r) where
    sizes : length a + length b ≡ n + m
    sizes = rw (all_size f a lf ea, all_size r b lr eb) refl

    pub over : (x : Refusal) → refusal_number x ≡ count_cause 1024 (length a + length b) → refusal_number x ≡ cause
    unfolding split_wires_cause
    over x e = let p = bound_passed x _ e in p.1 ∙ sym (hit tests _ 3 (ap (ltb 1024) (sym sizes) ∙ p.0))

    pub within : (c x y : ℕ) → 0 ≡ count_cause 64 (f.count + r.count) → 0 ≡ count_cause 1024 (length a + length b)
        → x ≡ uses_cause edges a (length a) → y ≡ uses_cause edges b (length b) → c ≡ lower_of x y → c ≡ cause
    unfolding split_wires_cause
    within c x y p q ex ey ec =
        let u : x ≡ uses_cause edges f.uses.now n = ex ∙ rw ea (uses_front edges _ _ lf.uses) in
        let v : y ≡ uses_cause edges r.uses.now m = ey ∙ rw eb (uses_front edges _ _ lr.uses) in
        rw (
          bound_kept _ p,
          le-ltb _ _ lf.lengths,
          le-ltb _ _ lr.lengths,
          (ap (ltb 1024) (sym sizes) ∙ bound_kept _ q),
          le-ltb _ _ lf.uses,
          le-ltb _ _ lr.uses,
          ← u,
          ← v,
        ) ec
