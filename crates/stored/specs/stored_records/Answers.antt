-- The answer of a call as the list has it: 0 with what the call told, or "none" or the number of the refusal with zeros. Definitions only.
use Rattle.std.specs.Prelude.{◌≡◌, ℕ, List, [], ◌∷◌, Option, Some, None, Result, Ok, Err}
use Rattle.std.specs.Array.{AllOfLen}
use Rattle.compress.specs.declared.Counts.{Counts}
use Rattle.compress.specs.declared.Refusal.{Refusal}
use Rattle.compress.specs.Refusals.{refusal_number}
use Rattle.stored.specs.declared.stored_records.answers.Answer.{Answer}

-- an answer with no values: n zeros stand in their place
abbrev pub IsBare : {A : Type 0} → (A → Type 0) → (n : ℕ) → ℕ → Answer A n → Type 0
IsBare zero n number a = (a.number ≡ number) × AllOfLen zero a.told n

-- the answer of a call that tells something or is refused
abbrev pub IsAnswer : {A : Type 0} → (A → Type 0) → (n : ℕ) → Result (List A) Refusal → Answer A n → Type 0
IsAnswer zero n (Ok t) a = a ≡ record { number = 0; told = t }
IsAnswer zero n (Err r) a = IsBare zero n (refusal_number r) a

-- the answer of a call that can also say "none", which is the largest word
abbrev pub IsAnswerOrNone : {A : Type 0} → (A → Type 0) → (n : ℕ) → Result (Option (List A)) Refusal → Answer A n → Type 0
IsAnswerOrNone zero n (Ok (Some t)) a = a ≡ record { number = 0; told = t }
IsAnswerOrNone zero n (Ok None) a = IsBare zero n 18446744073709551615 a
IsAnswerOrNone zero n (Err r) a = IsBare zero n (refusal_number r) a

-- the three counts of a call, or its refusal
abbrev pub counts_told : Result Counts Refusal → Result (List ℕ) Refusal
counts_told (Ok n) = Ok (n.vertices ∷ n.edges ∷ n.uses ∷ [])
counts_told (Err r) = Err r
