-- Runs of cells in a list, of any kind of cell.
-- Assumes nothing.
use mathlib.Core.Path.{◌≡◌, refl, ap, ◌∙◌}
use mathlib.Core.List.{List, [], ◌∷◌, ◌++◌}
use mathlib.Core.Logic.{◌⊎◌, inl, inr, ⊎_elim}
use Prim.Native.Nat.{ℕ, zero, suc, ◌+◌, ◌*◌, ◌≤◌, ◌<◌}
use native.Mathlib.Nat.{mul-le-mul_right}
use native.Mathlib.Omega.{arith}
use native.Mathlib.Decide.{dec_lt}
use lib.ListN.{length, get_or, set, take, drop, replicate, length-append, get_or-append}
use lib.Seq.{sets, sets-eq, get_or-set_other, set_comm, set-get_or, get_or-append-add, length-take-le, take_at, take-suc}

module _ {A : Type 0} (d : A) where
  -- what was written at place k of the run is read at its cell m
  pub get_or_sets_at : (vs l : List A) (i k m : ℕ) → m ≡ i + k → k < length vs → i + length vs ≤ length l
      → get_or (sets l i vs) m d ≡ get_or vs k d
  get_or_sets_at vs l i k m e hk h =
      let i_le : i ≤ length l = omega arith in
      let p : length (take i l) ≡ i = length-take-le i l i_le in
      let q : m ≡ length (take i l) + k = omega arith in
      let s : m < length (take i l ++ vs) = omega (arith, length-append (take i l) vs) in
      rw (sets-eq vs l i h, get_or-append (take i l ++ vs) (drop (i + length vs) l) d m s, q, get_or-append-add)

  -- a cell outside the run keeps what it held
  pub get_or_sets_out : (vs l : List A) (i m : ℕ) → ((m < i) ⊎ (i + length vs ≤ m)) → get_or (sets l i vs) m d ≡ get_or l m d
  get_or_sets_out [] l i m h = refl
  get_or_sets_out (v ∷ vs) l i m h =
      get_or_sets_out vs (set l i v) (suc i) m (⊎_elim (λ x. inl (omega arith)) (λ x. inr (omega arith)) h)
      ∙ get_or-set_other l i m v d (λ q. ⊎_elim (λ x. omega arith) (λ x. omega arith) h)

  -- the run of n cells from i on
  unfoldable pub cells_at : List A → ℕ → ℕ → List A
  cells_at l i zero = []
  cells_at l i (suc n) = get_or l i d ∷ cells_at l (suc i) n

  -- a run that is written where it stands changes nothing
  pub sets_same : (l : List A) (i n : ℕ) → sets l i (cells_at l i n) ≡ l
  unfolding cells_at
  sets_same l i zero = refl
  sets_same l i (suc n) =
      ap (λ (x : List A). sets x (suc i) (cells_at l (suc i) n)) (set-get_or l i d) ∙ sets_same l (suc i) n

module _ {A : Type 0} where
  -- runs one after the other
  pub sets_append : (xs ys l : List A) (i : ℕ) → sets l i (xs ++ ys) ≡ sets (sets l i xs) (i + length xs) ys
  sets_append [] ys l i =
      let p : i + 0 ≡ i = omega arith in
      rw p
  sets_append (x ∷ xs) ys l i =
      let p : i + length (x ∷ xs) ≡ suc i + length xs = omega arith in
      rw p (sets_append xs ys (set l i x) (suc i))

  set_sets : (ws l : List A) (i j : ℕ) (a : A) → ((i < j) ⊎ (j + length ws ≤ i)) → set (sets l j ws) i a ≡ sets (set l i a) j ws
  set_sets [] l i j a h = refl
  set_sets (w ∷ ws) l i j a h =
      let ne : i ≡ j → ⊥ = λ q. ⊎_elim (λ x. omega arith) (λ x. omega arith) h in
      rw (set_comm l i j a w ne) (set_sets ws (set l j w) i (suc j) a (⊎_elim (λ x. inl (omega arith)) (λ x. inr (omega arith)) h))

  -- two runs that share no cell may be written in either order
  pub sets_comm : (vs ws l : List A) (i j : ℕ) → ((i + length vs ≤ j) ⊎ (j + length ws ≤ i))
      → sets (sets l i vs) j ws ≡ sets (sets l j ws) i vs
  sets_comm [] ws l i j h = refl
  sets_comm (v ∷ vs) ws l i j h =
      sets_comm vs ws (set l i v) (suc i) j (⊎_elim (λ x. inl (omega arith)) (λ x. inr (omega arith)) h)
      ∙ rw (set_sets ws l i j v (⊎_elim (λ x. inl (omega arith)) (λ x. inr (omega arith)) h))

-- the stores of straight-line code are a run
module _ {A : Type 0} (l : List A) (a : ℕ) where
  pub run1 : (x : A) → set l a x ≡ sets l (a + 0) (x ∷ [])
  run1 x =
      let o : a + 0 ≡ a = omega arith in
      rw o

  pub run3 : (x y z : A) → set (set (set l a x) (a + 1) y) (a + 2) z ≡ sets l (a + 0) (x ∷ y ∷ z ∷ [])
  run3 x y z =
      let o : a + 0 ≡ a = omega arith in
      let p : a + 1 ≡ suc a = omega arith in
      let q : a + 2 ≡ suc (suc a) = omega arith in
      rw (o, p, q)

  pub run4 : (x y z w : A) → set (set (set (set l a x) (a + 1) y) (a + 2) z) (a + 3) w ≡ sets l (a + 0) (x ∷ y ∷ z ∷ w ∷ [])
  run4 x y z w =
      let p : a + 0 ≡ a = omega arith in
      let q : a + 3 ≡ suc (suc (suc a)) = omega arith in
      rw (run3 x y z, p, q)

  pub run5 : (x y z w s : A) → set (set (set (set (set l a x) (a + 1) y) (a + 2) z) (a + 3) w) (a + 4) s ≡ sets l (a + 0) (x ∷ y ∷ z ∷ w ∷ s ∷ [])
  run5 x y z w s =
      let p : a + 0 ≡ a = omega arith in
      let q : a + 4 ≡ suc (suc (suc (suc a))) = omega arith in
      rw (run4 x y z w, p, q)

  pub run6 : (x y z w s t : A)
      → set (set (set (set (set (set l a x) (a + 1) y) (a + 2) z) (a + 3) w) (a + 4) s) (a + 5) t
      ≡ sets l (a + 0) (x ∷ y ∷ z ∷ w ∷ s ∷ t ∷ [])
  run6 x y z w s t =
      let o : a + 0 ≡ a = omega arith in
      let p : a + 5 ≡ suc (suc (suc (suc (suc a)))) = omega arith in
      rw (run5 x y z w s, o, p)

  -- the last two of six
  pub run2 : (x y : A) → set (set l (a + 4) x) (a + 5) y ≡ sets l (a + 4) (x ∷ y ∷ [])
  run2 x y =
      let p : a + 5 ≡ suc (a + 4) = omega arith in
      rw p

-- a list of one cell is that cell everywhere
pub all_alike : {A : Type 0} (a : A) (n k : ℕ) → get_or (replicate n a) k a ≡ a
all_alike a zero k = refl
all_alike a (suc n) zero = refl
all_alike a (suc n) (suc k) = all_alike a n k

-- rows do not meet
pub row_below : (i j w : ℕ) → i < j → i * w + w ≤ j * w
row_below i j w h =
    let p : suc i * w ≤ j * w = mul-le-mul_right w h in
    omega arith

-- two numbers that differ are one below the other
pub apart : (m i : ℕ) → (m ≡ i → ⊥) → (m < i) ⊎ (i < m)
apart m i ne = pick (dec_lt m i)
  where
    pick : Dec (m < i) → (m < i) ⊎ (i < m)
    pick (yes h) = inl h
    pick (no h) = inr (omega (arith, ne, h))

-- ---- the front of a list
pub take_more : {A : Type 0} (d : A) (l : List A) (i : ℕ) → i < length l → take (i + 1) l ≡ take i l ++ (get_or l i d ∷ [])
take_more d l i h =
    let q : i + 1 ≡ suc i = omega arith in
    rw q (take-suc l i d h)

-- a buffer, one run further
pub take_sets : {A : Type 0} (out ps : List A) (k : ℕ) → k + length ps ≤ length out → take (k + length ps) (sets out k ps) ≡ take k out ++ ps
take_sets out ps k h =
    let t : length (take k out) ≡ k = length-take-le k out (omega arith) in
    let l : length (take k out ++ ps) ≡ k + length ps = length-append (take k out) ps ∙ rw t in
    rw (sets-eq ps out k h) (take_at (take k out ++ ps) (drop (k + length ps) out) (k + length ps) l)
