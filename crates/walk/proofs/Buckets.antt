-- The lists of the vertices, as the walk changes them, and the walk's moves by those lists. Assumes nothing.
use Prim.Native.Nat.{ℕ, ◌<◌}
use native.Mathlib.Omega.{arith}
use native.Mathlib.Nat.{not-suc-le-zero}
use mathlib.Core.Path.{◌≡◌, refl, ap, ◌∙◌}
use mathlib.Core.Logic.{◌≢◌}
use mathlib.Core.Bool.{Bool}
use mathlib.Core.List.{List, [], ◌∷◌}
use lib.ListN.{length}
use borrow.Author.Tests.{eq-eqb, ne_eqb}
use Rattle.walk.specs.Walk.{finish, fresh, State, least, begin, choose, turn, move}
use Rattle.walk.specs.lists.Members.{put, sits, at}
use Rattle.walk.proofs.lists.Counts.{bit, count_cons}
use Rattle.walk.proofs.Counts.{least_has}

module _ (front : ℕ → ℕ) where
  -- Below the smallest vertex every list is empty, and a list of uses is empty where all the lists are.
  below_cons : (w x : ℕ) (l : List ℕ) → w < front x → at front w l ≡ [] → at front w (x ∷ l) ≡ []
  below_cons w x l h e = ap (λ (t : Bool). put t x (at front w l)) (ne_eqb (front x) w (λ g. omega arith)) ∙ e

  pub below : (w x : ℕ) (l : List ℕ) → w < least front x l → at front w (x ∷ l) ≡ []
  below w x [] h = below_cons w x [] h refl
  below w x (y ∷ l) h = below_cons w x (y ∷ l) (omega arith) (below w y l (omega arith))

  pub all_empty : (l : List ℕ) → ((v : ℕ) → at front v l ≡ []) → l ≡ []
  all_empty [] e = refl
  all_empty (x ∷ l) e =
      absurd (omega (arith, count_cons (sits front (front x)) x l, ap bit (eq-eqb (front x) (front x) refl), ap length (e (front x))))

  pub least_is : (v x : ℕ) (l : List ℕ) → ((w : ℕ) → w < v → at front w (x ∷ l) ≡ []) → 0 < length (at front v (x ∷ l)) → least front x l ≡ v
  least_is v x l e h =
      let a : ¬ (least front x l < v) = λ g. omega (arith, ap length (e (least front x l) g), least_has front x l) in
      let b : ¬ (v < least front x l) = λ g. omega (arith, ap length (below v x l g), h) in
      omega arith

  pub begin_finish : (l : List ℕ) → ((v : ℕ) → at front v l ≡ []) → begin front l ≡ finish
  begin_finish l e = ap (begin front) (all_empty l e)

  pub begin_fresh : (v : ℕ) (l : List ℕ) → ((w : ℕ) → w < v → at front w l ≡ []) → 0 < length (at front v l) → begin front l ≡ fresh v
  begin_fresh v [] e h = absurd (not-suc-le-zero h)
  begin_fresh v (x ∷ l) e h = ap fresh (least_is v x l e h)

-- The move that the walk makes, said of the lists alone.
module _ (front back : ℕ → ℕ) (marked : ℕ → Bool) (st : State) where
  pub move_on : back st.last ≢ st.start → (b : List ℕ) → at front (back st.last) st.rest ≡ b
      → move front back marked st ≡ choose marked (marked st.last) b
  move_on d b e = ap (λ (t : Bool). turn front back marked t st) (ne_eqb _ _ d) ∙ ap (choose marked (marked st.last)) e
