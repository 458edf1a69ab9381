-- The causes of wires, by whether their lengths and uses are lent. Assumes nothing.
use Rattle.std.proofs.Common.{◌≡◌, ℕ, ◌≤◌, ◌<◌, Bool, true, false, ◌&&◌, List, [], ◌∷◌, zero, suc, length, get_or, take, leb, ltb, MatchOption, Option, Result, Ok, Err, refl, sym, ap, subst, ◌∙◌}
use Rattle.std.specs.Result.{result_ok}
use Rattle.std.proofs.Common.{arith}
use mathlib.Core.Bool.{true≢false, false≢true}
use borrow.Author.Tests.{leb-true, leb-false, lt-ltb, le-ltb}
use Rattle.compress.specs.Records.{pick}
use Rattle.compress.specs.Wires.{total}
use Rattle.rows.specs.declared.lent.Wires.{Wires}
use Rattle.rows.specs.Held.{lie_in, all_uses}
use Rattle.compress.specs.declared.Refusal.{Refusal}
use Rattle.compress.specs.Refusals.{refusal_number}
use Rattle.compress.proofs.Refused.{number_above}
use Rattle.checks.specs.Causes.{when, count_cause, uses_cause, wires_cause}
use Rattle.checks.proofs.Lowest.{uses_front}
use lib.Seq.{length-take-le}

-- What lying is, in numbers.
pub record Lying (w : Wires) : Type 0 where
  pub few : w.count ≤ 64
  pub lengths : w.count ≤ length w.lengths.now
  pub uses : total (take w.count w.lengths.now) ≤ length w.uses.now

pub data Lacking (w : Wires) : Type 0 where
  many : 64 < w.count → Lacking w
  no_lengths : w.count ≤ 64 → length w.lengths.now < w.count → Lacking w
  no_uses : w.count ≤ 64 → w.count ≤ length w.lengths.now → length w.uses.now < total (take w.count w.lengths.now) → Lacking w

module _ (w : Wires) where
  abbrev n : ℕ
  n = w.count

  abbrev t : ℕ
  t = total (take w.count w.lengths.now)

  pub lying : lie_in w ≡ true → Lying w
  lying h = by (leb n 64) (leb n (length w.lengths.now)) (leb t (length w.uses.now)) refl refl refl h
    where
      by : (a b c : Bool) → leb n 64 ≡ a → leb n (length w.lengths.now) ≡ b → leb t (length w.uses.now) ≡ c → (a && (b && c)) ≡ true → Lying w
      by true true true p q r h = record { few = leb-true _ _ p; lengths = leb-true _ _ q; uses = leb-true _ _ r }
      by false b c p q r h = absurd (false≢true h)
      by true false c p q r h = absurd (false≢true h)
      by true true false p q r h = absurd (false≢true h)

  pub lacking : lie_in w ≡ false → Lacking w
  lacking h = by (leb n 64) (leb n (length w.lengths.now)) (leb t (length w.uses.now)) refl refl refl h
    where
      by : (a b c : Bool) → leb n 64 ≡ a → leb n (length w.lengths.now) ≡ b → leb t (length w.uses.now) ≡ c → (a && (b && c)) ≡ false → Lacking w
      by false b c p q r h = many (leb-false _ _ p)
      by true false c p q r h = no_lengths (leb-true _ _ p) (leb-false _ _ q)
      by true true false p q r h = no_uses (leb-true _ _ p) (leb-true _ _ q) (leb-false _ _ r)
      by true true true p q r h = absurd (true≢false h)

-- ---- tests with cause 1, one after the other
abbrev pub chain : List Bool → ℕ → ℕ
chain [] n = n
chain (b ∷ bs) n = pick b 1 (chain bs n)

-- where one of them holds the cause is 1
pub hit : (bs : List Bool) (n k : ℕ) → get_or bs k false ≡ true → chain bs n ≡ 1
hit [] n k e = absurd (false≢true e)
hit (true ∷ bs) n k e = refl
hit (false ∷ bs) n zero e = absurd (false≢true e)
hit (false ∷ bs) n (suc k) e = hit bs n k e

-- ---- the wires of one slice
abbrev wires_tests : Wires → List Bool
wires_tests w =
    let t = total (take w.count w.lengths.now) in
    ltb 64 w.count ∷ ltb (length w.lengths.now) w.count ∷ ltb 1024 t ∷ ltb (length w.uses.now) t ∷ []

pub wires_lacking : (edges : ℕ) (w : Wires) → Lacking w → wires_cause edges w.uses.now w.lengths.now w.count ≡ 1
unfolding wires_cause
wires_lacking edges w (many h) = hit (wires_tests w) _ 0 (lt-ltb _ _ h)
wires_lacking edges w (no_lengths f h) = hit (wires_tests w) _ 1 (lt-ltb _ _ h)
wires_lacking edges w (no_uses f l h) = hit (wires_tests w) _ 3 (lt-ltb _ _ h)

pub wires_lying : (edges : ℕ) (w : Wires) → Lying w → let t = total (take w.count w.lengths.now) in
    wires_cause edges w.uses.now w.lengths.now w.count ≡ pick (ltb 1024 t) 1 (uses_cause edges w.uses.now t)
unfolding wires_cause
wires_lying edges w h = rw (le-ltb _ _ h.few, le-ltb _ _ h.lengths, le-ltb _ _ h.uses) refl

-- ---- what `ok_or` tells of an option
pub told_some : {A E : Type 0} (P : Type 0) (Q : A → Type 0) (o : Option A) (r : Result A E) (x : A) → o ≡ result_ok r → r ≡ Ok x → MatchOption o P Q → Q x
told_some P Q o r x p q h = subst (λ t. MatchOption t P Q) (p ∙ ap result_ok q) h

pub told_none : {A E : Type 0} (P : Type 0) (Q : A → Type 0) (o : Option A) (r : Result A E) (e : E) → o ≡ result_ok r → r ≡ Err e → MatchOption o P Q → P
told_none P Q o r e p q h = subst (λ t. MatchOption t P Q) (p ∙ ap result_ok q) h

-- ---- a bound on a count
pub bound_passed : (r : Refusal) (b : Bool) → refusal_number r ≡ when b 1 → (b ≡ true) × (refusal_number r ≡ 1)
bound_passed r true e = (refl, e)
bound_passed r false e = let p = number_above r in absurd (omega (arith, e, p.1))

pub bound_kept : (b : Bool) → 0 ≡ when b 1 → b ≡ false
bound_kept true e = absurd (omega (arith, e))
bound_kept false e = refl

pub all_size : (w : Wires) (all : List ℕ) → Lying w → all ≡ all_uses w → length all ≡ total (take w.count w.lengths.now)
all_size w all h e = rw e (length-take-le _ _ h.uses)

pub wires_over : (edges : ℕ) (w : Wires) (all : List ℕ) (r : Refusal) → Lying w → all ≡ all_uses w → refusal_number r ≡ count_cause 1024 (length all)
    → refusal_number r ≡ wires_cause edges w.uses.now w.lengths.now w.count
wires_over edges w all r h e q =
    let p = bound_passed r _ q in
    rw (wires_lying edges w h, ← all_size w all h e, p.0) p.1

pub wires_within : (edges : ℕ) (w : Wires) (all : List ℕ) (cause : ℕ) → Lying w → all ≡ all_uses w → 0 ≡ count_cause 1024 (length all)
    → cause ≡ uses_cause edges all (length all) → cause ≡ wires_cause edges w.uses.now w.lengths.now w.count
wires_within edges w all cause h e q u =
    let s : uses_cause edges all (length all) ≡ uses_cause edges w.uses.now (total (take w.count w.lengths.now)) = rw e (uses_front edges _ _ h.uses) in
    rw (wires_lying edges w h, ← all_size w all h e, bound_kept _ q) (u ∙ s ∙ ap (uses_cause edges w.uses.now) (sym (all_size w all h e)))
