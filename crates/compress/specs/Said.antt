-- What a call answers, in document 01's terms: a result, "none", or the number of a refusal. Definitions only.
use Rattle.std.specs.Prelude.{ℕ, zero, suc, Option, Some, None, Result, Ok, Err}
use Rattle.compress.specs.declared.Refusal.{Refusal}
use Rattle.compress.specs.Refusals.{refusal_number}

pub data Said (A : Type 0) : Type 0 where
  result : A → Said A
  none : Said A
  refused : ℕ → Said A

-- what is said of a result; "none" and a refusal stay
abbrev pub on_result : {A B : Type 0} → Said A → (A → Said B) → Said B
on_result (result a) f = f a
on_result none f = none
on_result (refused n) f = refused n

-- a cause, by its number, ahead of what there would be without one; 0 is no cause
abbrev pub cause_or : {O : Type 0} → ℕ → (ℕ → O) → O → O
cause_or zero refuse o = o
cause_or (suc n) refuse o = refuse (suc n)

-- the same of what is said
abbrev pub refused_or : {A : Type 0} → ℕ → Said A → Said A
refused_or n s = cause_or n refused s

-- An answer in these terms, with what is said of its result.
abbrev pub said_of : {A B : Type 0} → (A → B) → Result A Refusal → Said B
said_of f (Ok a) = result (f a)
said_of f (Err r) = refused (refusal_number r)

-- The same of an answer that may be "none".
abbrev pub said_if : {A B : Type 0} → (A → B) → Result (Option A) Refusal → Said B
said_if f (Ok (Some a)) = result (f a)
said_if f (Ok None) = none
said_if f (Err r) = refused (refusal_number r)
