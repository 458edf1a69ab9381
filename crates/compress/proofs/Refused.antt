-- The numbers of refusals, a cause goes ahead of what would be said without it, and what is said tells results apart. Assumes nothing.
use Rattle.std.proofs.Common.{◌≡◌, ℕ, ℤ, pos, suc, arith, Result, Ok, Err, [], ◌∷◌, get_or, refl, sym, ap, ◌∙◌}
use mathlib.Core.Logic.{inl, inr}
use Rattle.std.specs.Result.{IsErrAnd}
use Rattle.std.proofs.lemmas.Result.{err_from_is_err_and}
use Rattle.compress.specs.declared.Refusal.{Refusal}
use Rattle.compress.specs.declared.Refusal.TheVariants.{Malformed, VertexNumber, EdgeNumber, NotSized, OutOfRange, NoRoom, PendingVertex, PastEnd, OddDivisor, RepeatedVertex, DeadEnd, TooManyUses, EmptyList, SeveralCuts, EmptyOpenWire, TooManyCuts, NotRising, EighthsOutOfRange}
use Rattle.compress.specs.Refusals.{refusal_number, IsCause, cause_of}
use Rattle.compress.specs.Said.{Said, result, none, refused, cause_or, refused_or}

-- every refusal has a number above 0
pub number_above : (r : Refusal) → (n : ℕ) × (refusal_number r ≡ suc n)
number_above Malformed = (0, refl)
number_above VertexNumber = (1, refl)
number_above EdgeNumber = (2, refl)
number_above NotSized = (3, refl)
number_above OutOfRange = (4, refl)
number_above NoRoom = (5, refl)
number_above PendingVertex = (6, refl)
number_above PastEnd = (7, refl)
number_above OddDivisor = (8, refl)
number_above RepeatedVertex = (9, refl)
number_above DeadEnd = (10, refl)
number_above TooManyUses = (11, refl)
number_above EmptyList = (12, refl)
number_above SeveralCuts = (13, refl)
number_above EmptyOpenWire = (14, refl)
number_above TooManyCuts = (15, refl)
number_above NotRising = (16, refl)
number_above EighthsOutOfRange = (17, refl)

-- no two refusals have one number
named : ℕ → Refusal
named n =
    get_or (Malformed ∷ Malformed ∷ VertexNumber ∷ EdgeNumber ∷ NotSized ∷ OutOfRange ∷ NoRoom ∷ PendingVertex ∷ PastEnd ∷ OddDivisor
    ∷ RepeatedVertex ∷ DeadEnd ∷ TooManyUses ∷ EmptyList ∷ SeveralCuts ∷ EmptyOpenWire
    ∷ TooManyCuts ∷ NotRising ∷ EighthsOutOfRange ∷ []) n Malformed

named_same : (r : Refusal) → named (refusal_number r) ≡ r
unfolding named
named_same Malformed = refl
named_same VertexNumber = refl
named_same EdgeNumber = refl
named_same NotSized = refl
named_same OutOfRange = refl
named_same NoRoom = refl
named_same PendingVertex = refl
named_same PastEnd = refl
named_same OddDivisor = refl
named_same RepeatedVertex = refl
named_same DeadEnd = refl
named_same TooManyUses = refl
named_same EmptyList = refl
named_same SeveralCuts = refl
named_same EmptyOpenWire = refl
named_same TooManyCuts = refl
named_same NotRising = refl
named_same EighthsOutOfRange = refl

pub number_tells : (r s : Refusal) → refusal_number r ≡ refusal_number s → r ≡ s
number_tells r s e = sym (named_same r) ∙ (ap named e ∙ named_same s)

-- refusals are ordered by their numbers
abbrev pub rank : Refusal → ℤ
rank z =
    get_or (pos 1 ∷ pos 2 ∷ pos 3 ∷ pos 4 ∷ pos 5 ∷ pos 6 ∷ pos 7 ∷ pos 8 ∷ pos 9 ∷ pos 10 ∷ pos 11 ∷ pos 12 ∷ pos 13 ∷ pos 14 ∷ pos 15
    ∷ pos 16 ∷ pos 17 ∷ pos 18 ∷ [])
    (denote.Enum.Declared.tag_of Rattle.compress.specs.contracts.Refusal.the_type z) (pos 0)

pub ranked : (z : Refusal) → rank z ≡ pos (refusal_number z)
ranked Malformed = refl
ranked VertexNumber = refl
ranked EdgeNumber = refl
ranked NotSized = refl
ranked OutOfRange = refl
ranked NoRoom = refl
ranked PendingVertex = refl
ranked PastEnd = refl
ranked OddDivisor = refl
ranked RepeatedVertex = refl
ranked DeadEnd = refl
ranked TooManyUses = refl
ranked EmptyList = refl
ranked SeveralCuts = refl
ranked EmptyOpenWire = refl
ranked TooManyCuts = refl
ranked NotRising = refl
ranked EighthsOutOfRange = refl

-- what a check answers is a cause
pub answer_is_cause : {A : Type 0} (r : Result A Refusal) → IsCause (cause_of r)
answer_is_cause (Ok a) = inl refl
answer_is_cause (Err x) = inr (x, refl)

-- where a cause is found, there is what its refusal comes to
pub cause_met : {O : Type 0} (r : Refusal) (cause : ℕ) (refuse : ℕ → O) (o : O) → refusal_number r ≡ cause → refuse (refusal_number r) ≡ cause_or cause refuse o
cause_met r cause refuse o e = let p = number_above r in rw (← e, p.1) refl

-- so its refusal is what is said
pub said_refused : {A : Type 0} (r : Refusal) (cause : ℕ) (s : Said A) → refusal_number r ≡ cause → refused (refusal_number r) ≡ refused_or cause s
said_refused r cause s e = cause_met r cause refused s e

-- where none is found, what is said stays
pub said_checked : {A : Type 0} (cause : ℕ) (s : Said A) → 0 ≡ cause → s ≡ refused_or cause s
said_checked cause s e = rw (← e) refl

-- what the exit of a `?` returns: the refusal that it met
pub exit_is : {A : Type 0} (r : Result A Refusal) (x : Refusal) → IsErrAnd r (λ y. y ≡ x) → r ≡ Err x
exit_is r x e = let p = err_from_is_err_and r e in rw (p.1, p.2) refl

-- ---- what is said
-- a refusal is no result
pub refused_never : {A : Type 0} {a : A} (n : ℕ) → ◌≡◌ {A = Said A} (refused n) (result a) → ⊥
refused_never n e = let z : ◌≡◌ {A = ℕ} 0 1 = cc in omega arith

-- "none" is no result
pub none_never : {A : Type 0} {a : A} → ◌≡◌ {A = Said A} none (result a) → ⊥
none_never e = let z : ◌≡◌ {A = ℕ} 0 1 = cc in omega arith

-- and what is said of two results is the same of the same results alone
pub result_told : {A : Type 0} (a b : A) → ◌≡◌ {A = Said A} (result a) (result b) → a ≡ b
result_told a b e = cc
