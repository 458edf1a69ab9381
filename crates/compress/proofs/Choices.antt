-- What a comparison in the code chooses, and that the first of the smallest is one of its row.
-- Assumes nothing.
use mathlib.Core.Path.{◌≡◌, refl, ◌∙◌}
use mathlib.Core.Bool.{Bool, true, false}
use mathlib.Core.Logic.{◌⊎◌, inl, inr, ⊎_elim}
use mathlib.Core.List.Memᴰ
use mathlib.Core.List.{List, [], ◌∷◌, Memᴰ}
use lib.Ieee.{Float, lt}
use Rattle.compress.specs.Records.{pick}
use Rattle.compress.specs.Choice.{smaller, smallest}

module _ {A : Type 0} (f : A → Float) (a b : A) (x y : Float) (p : x ≡ f a) (q : y ≡ f b) where
  pub takes_later : lt y x ≡ true → b ≡ smaller f a b
  unfolding smaller
  takes_later t = rw (← p, ← q, t)

  pub takes_earlier : lt y x ≡ false → a ≡ smaller f a b
  unfolding smaller
  takes_earlier t = rw (← p, ← q, t)

-- ---- the chosen one is in the row
pub chosen : {A : Type 0} (f : A → Float) (a b : A) → (smaller f a b ≡ a) ⊎ (smaller f a b ≡ b)
unfolding smaller
chosen f a b = by (lt (f b) (f a))
  where
    by : (t : Bool) → (pick t b a ≡ a) ⊎ (pick t b a ≡ b)
    by true = inr refl
    by false = inl refl

pub into : {A : Type 0} (x a b : A) (rest : List A) (s : A) → (s ≡ a) ⊎ (s ≡ b) → Memᴰ x (s ∷ rest) → Memᴰ x (a ∷ b ∷ rest)
into x a b rest s w m =
    ⊎_elim
    (λ (e : x ≡ s). ⊎_elim (λ p. Memᴰ.head (e ∙ p)) (λ p. Memᴰ.tail (Memᴰ.head (e ∙ p))) w)
    (λ t. Memᴰ.tail (Memᴰ.tail t))
    (Memᴰ.cases_cons m)

pub smallest_member : {A : Type 0} (f : A → Float) (rest : List A) (a : A) → Memᴰ (smallest f a rest) (a ∷ rest)
smallest_member f [] a = Memᴰ.head refl
smallest_member f (b ∷ rest) a = into _ a b rest (smaller f a b) (chosen f a b) (smallest_member f rest (smaller f a b))
