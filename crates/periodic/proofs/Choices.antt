-- A row that is gone through in parts, and that of finite measures none is smaller than the chosen one's.
-- Assumes nothing.
use mathlib.Core.Path.{◌≡◌, refl}
use mathlib.Core.Bool.{Bool, true, false, not}
use mathlib.Core.Logic.{⊎_elim}
use mathlib.Core.List.Memᴰ
use mathlib.Core.List.{List, [], ◌∷◌, ◌++◌, append-nil, foldl, Memᴰ}
use Prim.Native.Nat.{ℕ, ◌+◌, ◌<◌}
use lib.Dec.{T}
use lib.ListN.{length, get_or, take}
use lib.Ieee.{Float, binary64, lt, le}
use Rattle.floats.proofs.Value.{Held}
use Rattle.floats.proofs.Mono.{nlt→le, le_self, le_trans_held}
use Rattle.compress.specs.Records.{pick}
use Rattle.compress.specs.Choice.{smaller, smallest}
use Rattle.compress.proofs.Cells.{take_more}
use Rattle.compress.proofs.Choices.{chosen, into, smallest_member}

-- a row that is gone through in two parts
pub foldl_parts : {A B : Type 0} (g : B → A → B) (xs ys : List A) (a : B) → foldl g a (xs ++ ys) ≡ foldl g (foldl g a xs) ys
foldl_parts g [] ys a = refl
foldl_parts g (x ∷ xs) ys a = foldl_parts g xs ys (g a x)

-- in four
pub four_parts : {A : Type 0} (g : A → A → A) (w x y z : List A) (a b c d r : A) → b ≡ foldl g a w → c ≡ foldl g b x → d ≡ foldl g c y → r ≡ foldl g d z
    → r ≡ foldl g a (w ++ (x ++ (y ++ (z ++ []))))
four_parts g w x y z a b c d r p q s t =
    rw (foldl_parts g w _ a, foldl_parts g x _ _, foldl_parts g y _ _, append-nil z, ← p, ← q, ← s) t

pub four_steps : {A : Type 0} (g : A → A → A) (a b c d r w x y z w' x' y' z' : A) → b ≡ g a w → c ≡ g b x → d ≡ g c y → r ≡ g d z
    → w ≡ w' → x ≡ x' → y ≡ y' → z ≡ z' → r ≡ foldl g a (w' ∷ x' ∷ y' ∷ z' ∷ [])
four_steps g a b c d r w x y z w' x' y' z' p q s t e₁ e₂ e₃ e₄ = rw (t, s, q, p, e₁, e₂, e₃, e₄)

-- and an item further
pub foldl_turn : {A B : Type 0} (g : B → A → B) (xs : List A) (i : ℕ) (a b r : B) (d : A) → i < length xs → b ≡ foldl g a (take i xs) → r ≡ g b (get_or xs i d)
    → r ≡ foldl g a (take (i + 1) xs)
foldl_turn g xs i a b r d h p q = rw (take_more d xs i h, foldl_parts g (take i xs) (get_or xs i d ∷ []) a, ← p) q

-- ---- none is smaller than the chosen one

-- of two finite measures the chosen one's is at most either
lt→le : (x y : Float) → lt x y ≡ true → T (le x y)
unfolding le
lt→le x y q = rw q tt

not_lt : (x y : Float) → lt x y ≡ false → T (not (lt x y))
not_lt x y q = rw q tt

smaller_le : {A : Type 0} (f : A → Float) (a b : A) → Held binary64 (f a) → Held binary64 (f b)
    → T (le (f (smaller f a b)) (f a)) × T (le (f (smaller f a b)) (f b))
unfolding smaller
smaller_le f a b h k = by (lt (f b) (f a)) refl
  where
    by : (t : Bool) → lt (f b) (f a) ≡ t → T (le (f (pick t b a)) (f a)) × T (le (f (pick t b a)) (f b))
    by true q = (lt→le (f b) (f a) q, le_self (f b) k.bounded)
    by false q = (le_self (f a) h.bounded, nlt→le (f b) (f a) k.bounded h.bounded (not_lt (f b) (f a) q))

pub smallest_least : {A : Type 0} (f : A → Float) (rest : List A) (a : A) → ((x : A) → Memᴰ x (a ∷ rest) → Held binary64 (f x))
    → (c : A) → Memᴰ c (a ∷ rest) → T (le (f (smallest f a rest)) (f c))
smallest_least f [] a held c m =
    ⊎_elim (λ (e : c ≡ a). rw e (le_self (f a) (held a (Memᴰ.head refl)).bounded)) (λ t. absurd (Memᴰ.not-nil t)) (Memᴰ.cases_cons m)
smallest_least f (b ∷ rest) a held c m =
    let s = smaller f a b in
    let ha = held a (Memᴰ.head refl) in
    let hb = held b (Memᴰ.tail (Memᴰ.head refl)) in
    let hs : (x : _) → Memᴰ x (s ∷ rest) → Held binary64 (f x) = λ x i. held x (into x a b rest s (chosen f a b) i) in
    let best = smallest_least f rest s hs in
    let r = hs (smallest f s rest) (smallest_member f rest s) in
    let at : T (le (f (smallest f s rest)) (f s)) = best s (Memᴰ.head refl) in
    let two = smaller_le f a b ha hb in
    let sh = hs s (Memᴰ.head refl) in
    ⊎_elim
    (λ (e : c ≡ a). rw e (le_trans_held r sh ha at two.0))
    (λ t. ⊎_elim (λ (e : c ≡ b). rw e (le_trans_held r sh hb at two.1)) (λ i. best c (Memᴰ.tail i)) (Memᴰ.cases_cons t))
    (Memᴰ.cases_cons m)
