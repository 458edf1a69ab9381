-- Causes 1 and 3 of all wires of a join, test by test. Assumes nothing.
use Rattle.std.proofs.Common.{◌≡◌, ℕ, ◌+◌, ◌≤◌, ◌<◌, Bool, List, [], ◌∷◌, length, take, ltb, refl, sym, ap, ◌∙◌}
use Rattle.std.proofs.Common.{arith}
use borrow.Author.Tests.{lt-ltb, le-ltb, ltb-true, ltb-false}
use lib.Seq.{length-take-le}
use Rattle.compress.specs.declared.Refusal.{Refusal}
use Rattle.compress.specs.Refusals.{refusal_number}
use Rattle.compress.specs.Wires.{total}
use Rattle.rows.specs.declared.lent.Wires.{Wires}
use Rattle.rows.specs.declared.lent.Stretch.{Stretch}
use Rattle.rows.specs.Held.{all_uses}
use Rattle.checks.specs.Causes.{lower_of, count_cause, uses_cause}
use Rattle.checks.proofs.Lowest.{uses_front}
use Rattle.checks.proofs.Lying.{Lying, Lacking, many, no_lengths, no_uses, hit, bound_passed, bound_kept, all_size}
use Rattle.join.specs.Contract.{join_wires_cause}

module _ (edges : ℕ) (f s : Stretch) (w : Wires) where
  abbrev t : ℕ
  t = total (take w.count w.lengths.now)

  abbrev tests : List Bool
  tests =
      ltb 64 (w.count + 2) ∷ ltb (length w.lengths.now) w.count ∷ ltb (length f.uses.now) f.count ∷ ltb (length s.uses.now) s.count
      ∷ ltb 1024 (f.count + s.count + t) ∷ ltb (length w.uses.now) t ∷ []

  abbrev pub cause : ℕ
  cause = join_wires_cause edges f.uses.now f.count s.uses.now s.count w.uses.now w.lengths.now w.count

  pub first_lacking : length f.uses.now < f.count → cause ≡ 1
  unfolding join_wires_cause
  first_lacking h = hit tests _ 2 (lt-ltb _ _ h)

  pub second_lacking : length s.uses.now < s.count → cause ≡ 1
  unfolding join_wires_cause
  second_lacking h = hit tests _ 3 (lt-ltb _ _ h)

  pub new_lacking : Lacking w → cause ≡ 1
  unfolding join_wires_cause
  new_lacking (many h) = hit tests _ 0 (lt-ltb 64 (w.count + 2) (omega arith))
  new_lacking (no_lengths l h) = hit tests _ 1 (lt-ltb _ _ h)
  new_lacking (no_uses l k h) = hit tests _ 5 (lt-ltb _ _ h)

  pub many_wires : (r : Refusal) → refusal_number r ≡ count_cause 62 w.count → refusal_number r ≡ cause
  unfolding join_wires_cause
  many_wires r e =
      let p = bound_passed r _ e in
      let h : 62 < w.count = ltb-true 62 w.count p.0 in
      p.1 ∙ sym (hit tests _ 0 (lt-ltb 64 (w.count + 2) (omega arith)))

  module _ (lf : f.count ≤ length f.uses.now) (ls : s.count ≤ length s.uses.now) (lw : Lying w) (a b n : List ℕ)
      (ea : a ≡ take f.count f.uses.now) (eb : b ≡ take s.count s.uses.now) (en : n ≡ all_uses w) where
    sizes : length a + length b + length n ≡ f.count + s.count + t
    sizes = rw (all_size w n lw en, ea, eb, length-take-le _ _ lf, length-take-le _ _ ls) refl

    pub over : (r : Refusal) → refusal_number r ≡ count_cause 1024 (length a + length b + length n) → refusal_number r ≡ cause
    unfolding join_wires_cause
    over r e = let p = bound_passed r _ e in p.1 ∙ sym (hit tests _ 4 (ap (ltb 1024) (sym sizes) ∙ p.0))

    pub within : (c u v x y : ℕ) → 0 ≡ count_cause 62 w.count → 0 ≡ count_cause 1024 (length a + length b + length n)
        → u ≡ uses_cause edges a (length a) → v ≡ uses_cause edges b (length b) → x ≡ uses_cause edges n (length n)
        → y ≡ lower_of v x → c ≡ lower_of u y → c ≡ cause
    unfolding join_wires_cause
    within c u v x y k q eu ev ex ey ec =
        let h : w.count ≤ 62 = ltb-false 62 w.count (bound_kept _ k) in
        let p : u ≡ uses_cause edges f.uses.now f.count = eu ∙ rw ea (uses_front edges _ _ lf) in
        let r : v ≡ uses_cause edges s.uses.now s.count = ev ∙ rw eb (uses_front edges _ _ ls) in
        let z : x ≡ uses_cause edges w.uses.now t = ex ∙ rw en (uses_front edges _ _ lw.uses) in
        rw (
          le-ltb 64 (w.count + 2) (omega arith),
          le-ltb _ _ lw.lengths,
          le-ltb _ _ lf,
          le-ltb _ _ ls,
          (ap (ltb 1024) (sym sizes) ∙ bound_kept _ q),
          le-ltb _ _ lw.uses,
          ← p,
          ← r,
          ← z,
          ← ey,
        ) ec
