-- Which answers the walk has, and that it meets no dead end where every vertex is balanced, whatever the degrees. Assumes nothing.
use Prim.Native.Nat.{ℕ}
use native.Mathlib.Omega.{arith}
use mathlib.Core.Path.{◌≡◌, refl, ap, subst}
use mathlib.Core.Logic.{◌≢◌, ◌⊎◌, inl, inr, ⊎_elim}
use mathlib.Core.Bool.{Bool}
use mathlib.Core.List.{List}
use Rattle.walk.specs.Walk.{Answer, wires, refused, walk}
use Rattle.walk.specs.lists.Members.{count}
use Rattle.walk.specs.Claim.{out, into}
use Rattle.walk.proofs.Theorem.{Even, Small, Known, walk_known}

-- There are wires, or it is refused with 11 or with 12.
abbrev pub Outcome : Answer → Type 0
Outcome a = ((ws : List (List ℕ)) × (a ≡ wires ws)) ⊎ ((a ≡ refused 11) ⊎ (a ≡ refused 12))

module _ (front back : ℕ → ℕ) (marked : ℕ → Bool) (us : List ℕ) where
  abbrev Told : Answer → Type 0
  Told a = Known front back (Even front back us) (Small front us) (λ q. count q us) a

  pub outcomes : Outcome (walk front back marked us)
  outcomes = go (walk front back marked us) (walk_known front back marked us)
    where
      go : (a : Answer) → Told a → Outcome a
      go (wires ws) r = inl (ws, refl)
      go (refused c) r = inr (⊎_elim (λ (e : c ≡ 11). inl (ap refused e)) (λ (e : c ≡ 12). inr (ap refused e)) r.code)

  pub balanced : ((v : ℕ) → out front v us ≡ into back v us) → walk front back marked us ≢ refused 11
  balanced even e = (subst Told e (walk_known front back marked us)).not_eleven even refl

-- So 13 is never the answer.
pub not_thirteen : (a : Answer) → Outcome a → a ≢ refused 13
not_thirteen a (inl r) e = let h = r.1 in let z : ◌≡◌ {A = ℕ} 0 1 = cc in omega arith
not_thirteen a (inr (inl h)) e = let z : ◌≡◌ {A = ℕ} 11 13 = cc in omega arith
not_thirteen a (inr (inr h)) e = let z : ◌≡◌ {A = ℕ} 12 13 = cc in omega arith
