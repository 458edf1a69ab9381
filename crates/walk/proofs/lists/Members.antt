-- Taking a member out of a list, and adding one: what becomes of the list of each vertex. Assumes nothing.
use Prim.Native.Nat.{ℕ, zero, suc}
use mathlib.Core.Path.{◌≡◌, refl, ap, sym, ◌∙◌}
use mathlib.Core.Logic.{◌≢◌}
use mathlib.Core.Bool.{Bool, true, false}
use mathlib.Core.List.{List, [], ◌∷◌, ◌++◌}
use borrow.Author.Tests.{eqb-true, eq-eqb, ne_eqb}
use Rattle.walk.specs.lists.Members.{put, filter, cut, del, without, sits, at}

del_same_cons : (p : ℕ → Bool) (x : ℕ) (l : List ℕ) → ((n : ℕ) → filter p (del p n l) ≡ without (filter p l) n)
    → (t : Bool) → p x ≡ t → (n : ℕ) → filter p (cut t n x l (λ k. del p k l)) ≡ without (put t x (filter p l)) n
del_same_cons p x l ih true e zero = refl
del_same_cons p x l ih true e (suc n) = ap (λ (t : Bool). put t x (filter p (del p n l))) e ∙ ap {B = List ℕ} (x ∷◌) (ih n)
del_same_cons p x l ih false e n = ap (λ (t : Bool). put t x (filter p (del p n l))) e ∙ ih n

pub del_nil : (n : ℕ) → ◌≡◌ {A = List ℕ} [] (without [] n)
del_nil zero = refl
del_nil (suc n) = refl

del_same : (p : ℕ → Bool) (l : List ℕ) (n : ℕ) → filter p (del p n l) ≡ without (filter p l) n
del_same p [] n = del_nil n
del_same p (x ∷ l) n = del_same_cons p x l (λ k. del_same p l k) (p x) refl n

del_other_cons : (p q : ℕ → Bool) (x : ℕ) (l : List ℕ) → ((n : ℕ) → filter q (del p n l) ≡ filter q l)
    → (t : Bool) → (t ≡ true → q x ≡ false) → (n : ℕ) → filter q (cut t n x l (λ k. del p k l)) ≡ put (q x) x (filter q l)
del_other_cons p q x l ih true d zero = sym (ap (λ (t : Bool). put t x (filter q l)) (d refl))
del_other_cons p q x l ih true d (suc n) = ap (λ (m : List ℕ). put (q x) x m) (ih n)
del_other_cons p q x l ih false d n = ap (λ (m : List ℕ). put (q x) x m) (ih n)

del_other : (p q : ℕ → Bool) → ((x : ℕ) → p x ≡ true → q x ≡ false) → (l : List ℕ) (n : ℕ) → filter q (del p n l) ≡ filter q l
del_other p q d [] n = refl
del_other p q d (x ∷ l) n = del_other_cons p q x l (λ k. del_other p q d l k) (p x) (d x) n

module _ (front : ℕ → ℕ) where
  -- Taking a use of v out takes it out of the list of v, and leaves every other list.
  pub at_same : (v n : ℕ) (l : List ℕ) → at front v (del (sits front v) n l) ≡ without (at front v l) n
  at_same v n l = del_same (sits front v) l n

  pub at_other : (v w n : ℕ) (l : List ℕ) → v ≢ w → at front w (del (sits front v) n l) ≡ at front w l
  at_other v w n l d = del_other (sits front v) (sits front w) (λ x e. ne_eqb (front x) w (λ g. d (sym (eqb-true (front x) v e) ∙ g))) l n

  -- Filling the lists: one more use goes to the end of the list of its front.
  pub filter_snoc : (p : ℕ → Bool) (l : List ℕ) (x : ℕ) → filter p (l ++ (x ∷ [])) ≡ filter p l ++ put (p x) x []
  filter_snoc p [] x = refl
  filter_snoc p (y ∷ l) x = go (p y) (filter_snoc p l x)
    where
      go : (t : Bool) → filter p (l ++ (x ∷ [])) ≡ filter p l ++ put (p x) x []
          → put t y (filter p (l ++ (x ∷ []))) ≡ put t y (filter p l) ++ put (p x) x []
      go true e = ap {B = List ℕ} (y ∷◌) e
      go false e = e

  pub at_more : (l : List ℕ) (x : ℕ) → at front (front x) (l ++ (x ∷ [])) ≡ at front (front x) l ++ (x ∷ [])
  at_more l x = filter_snoc (sits front (front x)) l x ∙ ap (λ (t : Bool). at front (front x) l ++ put t x []) (eq-eqb (front x) (front x) refl)
