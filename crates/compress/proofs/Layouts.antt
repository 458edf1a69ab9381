-- Rows of any layout: a row that is put leaves the others, rows may be put in any order, and rows put where they stand change nothing.
-- Assumes nothing.
use mathlib.Core.Path.{◌≡◌, refl, ap, ◌∙◌}
use mathlib.Core.List.{List, [], ◌∷◌, ◌++◌}
use mathlib.Core.Logic.{◌⊎◌, inl, inr, ⊎_elim}
use Prim.Native.Nat.{ℕ, zero, suc, ◌+◌, ◌*◌, ◌≤◌, ◌<◌}
use native.Mathlib.Omega.{arith}
use lib.ListN.{length, get_or, set}
use lib.Seq.{length-sets}
use Rattle.compress.specs.Layout.{Layout, put, store_from, rows}
use Rattle.compress.proofs.Cells.{get_or_sets_at, get_or_sets_out, sets_comm, row_below, apart}

-- every record's cells lie in its row
unfoldable pub Fits : {A R : Type 0} → Layout A R → Type 0
Fits {A} {R} l = (r : R) → l.first r + length (l.cells r) ≤ l.width

module _ {A R : Type 0} (l : Layout A R) where
  pub length_put : (s : List A) (i : ℕ) (r : R) → length (put l s i r) ≡ length s
  unfolding put
  length_put s i r = length-sets s (i * l.width + l.first r) (l.cells r)

  pub length_store : (rs : List R) (s : List A) (i : ℕ) → length (store_from l s i rs) ≡ length s
  unfolding store_from
  length_store [] s i = refl
  length_store (r ∷ rs) s i = length_store rs (put l s i r) (i + 1) ∙ length_put s i r

  -- the laws of `store_from` with it shut
  pub store_first : (s : List A) (i : ℕ) (r : R) (rs : List R) → store_from l s i (r ∷ rs) ≡ store_from l (put l s i r) (i + 1) rs
  unfolding store_from
  store_first s i r rs = refl

  pub store_none : (s : List A) (i : ℕ) → store_from l s i [] ≡ s
  unfolding store_from
  store_none s i = refl

  pub store_append : (xs ys : List R) (s : List A) (i : ℕ) → store_from l s i (xs ++ ys) ≡ store_from l (store_from l s i xs) (i + length xs) ys
  unfolding store_from
  store_append [] ys s i =
      let p : i + 0 ≡ i = omega arith in
      rw p
  store_append (x ∷ xs) ys s i =
      let p : i + length (x ∷ xs) ≡ (i + 1) + length xs = omega arith in
      rw p (store_append xs ys (put l s i x) (i + 1))

  -- the cell that is k cells into a record reads what was put there
  pub put_at : (d : A) (s : List A) (i k m : ℕ) (r : R) → m ≡ (i * l.width + l.first r) + k → k < length (l.cells r)
      → (i * l.width + l.first r) + length (l.cells r) ≤ length s → get_or (put l s i r) m d ≡ get_or (l.cells r) k d
  unfolding put
  put_at d s i k m r e hk h = get_or_sets_at d (l.cells r) s (i * l.width + l.first r) k m e hk h

  module _ (fit : Fits l) where
    -- a cell outside the row keeps what it held
    pub put_out : (d : A) (s : List A) (i m : ℕ) (r : R) → ((m < i * l.width) ⊎ (i * l.width + l.width ≤ m))
        → get_or (put l s i r) m d ≡ get_or s m d
    unfolding put Fits
    put_out d s i m r h =
        get_or_sets_out d (l.cells r) s (i * l.width + l.first r) m
        (⊎_elim (λ x. inl (omega arith)) (λ x. inr (omega (arith, fit r))) h)

    -- a cell of another row keeps what it held
    pub put_other : (d : A) (s : List A) (i j k m : ℕ) (r : R) → (j ≡ i → ⊥) → m ≡ j * l.width + k → k < l.width
        → get_or (put l s i r) m d ≡ get_or s m d
    put_other d s i j k m r ne e hk =
        put_out d s i m r
        (⊎_elim
        (λ x. let p = row_below j i l.width x in inl (omega arith))
        (λ x. let p = row_below i j l.width x in inr (omega arith))
        (apart j i ne))

    -- two rows may be put in either order
    pub put_comm : (s : List A) (i j : ℕ) (a b : R) → (i < j) → put l (put l s i a) j b ≡ put l (put l s j b) i a
    unfolding put Fits
    put_comm s i j a b h =
        let p = row_below i j l.width h in
        sets_comm (l.cells a) (l.cells b) s (i * l.width + l.first a) (j * l.width + l.first b) (inl (omega (arith, fit a)))

    -- a row past the stored ones may be put before them
    pub store_put : (rs : List R) (s : List A) (i j : ℕ) (b : R) → i + length rs ≤ j
        → store_from l (put l s j b) i rs ≡ put l (store_from l s i rs) j b
    unfolding store_from
    store_put [] s i j b h = refl
    store_put (r ∷ rs) s i j b h =
        let p : i < j = omega arith in
        rw (← put_comm s i j r b p) (store_put rs (put l s i r) (i + 1) j b (omega arith))

-- ---- rows read

module _ {R : Type 0} where
  pub length_rows : (at : ℕ → R) (a n : ℕ) → length (rows at a n) ≡ n
  unfolding rows
  length_rows at a zero = refl
  length_rows at a (suc n) = ap suc (length_rows at (a + 1) n)

  pub rows_none : (at : ℕ → R) (a : ℕ) → rows at a 0 ≡ []
  unfolding rows
  rows_none at a = refl

  pub rows_first : (at : ℕ → R) (a n m : ℕ) → n ≡ suc m → rows at a n ≡ at a ∷ rows at (a + 1) m
  unfolding rows
  rows_first at a n m p = rw p

  -- one row more, at the end
  pub rows_more : (at : ℕ → R) (a n : ℕ) → rows at a (suc n) ≡ rows at a n ++ (at (a + n) ∷ [])
  unfolding rows
  rows_more at a zero =
      let p : a + 0 ≡ a = omega arith in
      rw p
  rows_more at a (suc n) =
      let p : a + suc n ≡ (a + 1) + n = omega arith in
      rw p (ap (λ (l : List R). at a ∷ l) (rows_more at (a + 1) n))

  -- the rows fall into those before and those after
  pub rows_join : (at : ℕ → R) (a m n : ℕ) → rows at a m ++ rows at (a + m) n ≡ rows at a (m + n)
  unfolding rows
  rows_join at a zero n =
      let p : a + 0 ≡ a = omega arith in
      let q : 0 + n ≡ n = omega arith in
      rw (p, q)
  rows_join at a (suc m) n =
      let p : a + suc m ≡ (a + 1) + m = omega arith in
      let q : suc m + n ≡ suc (m + n) = omega arith in
      rw (p, q) (ap (λ (l : List R). at a ∷ l) (rows_join at (a + 1) m n))

  -- readers that agree on the rows read the same
  pub rows_agree : (f g : ℕ → R) (a n : ℕ) → ((j : ℕ) → a ≤ j → j < a + n → f j ≡ g j) → rows f a n ≡ rows g a n
  unfolding rows
  rows_agree f g a zero h = refl
  rows_agree f g a (suc n) h =
      rw (h a (omega arith) (omega arith))
      (ap (λ (l : List R). g a ∷ l) (rows_agree f g (a + 1) n (λ j lo hi. h j (omega arith) (omega arith))))

  pub get_d_rows : (d : R) (at : ℕ → R) (a n i : ℕ) → i < n → get_or (rows at a n) i d ≡ at (a + i)
  unfolding rows
  get_d_rows d at a zero i h = absurd (none h)
    where
      none : i < 0 → ⊥
      none g = omega arith
  get_d_rows d at a (suc n) zero h =
      let p : a + 0 ≡ a = omega arith in
      rw p
  get_d_rows d at a (suc n) (suc i) h =
      let p : a + suc i ≡ (a + 1) + i = omega arith in
      rw p (get_d_rows d at (a + 1) n i (omega arith))

  -- and of rows from the first on
  pub row_at : (d : R) (at : ℕ → R) (n i : ℕ) → i < n → get_or (rows at 0 n) i d ≡ at i
  row_at d at n i h =
      let p : 0 + i ≡ i = omega arith in
      get_d_rows d at 0 n i h ∙ ap at p

-- rows put where they stand change nothing
pub store_same : {A R : Type 0} (l : Layout A R) (s : List A) (at : ℕ → R) (i n : ℕ)
    → ((j : ℕ) → i ≤ j → j < i + n → put l s j (at j) ≡ s) → store_from l s i (rows at i n) ≡ s
unfolding store_from rows
store_same {A} l s at i zero h = refl
store_same {A} l s at i (suc n) h =
    ap (λ (x : List A). store_from l x (i + 1) (rows at (i + 1) n)) (h i (omega arith) (omega arith))
    ∙ store_same l s at (i + 1) n (λ j lo hi. h j (omega arith) (omega arith))

-- and so just the row that is another one is put
pub store_set : {A R : Type 0} (l : Layout A R) (fit : Fits l) (s : List A) (at : ℕ → R) (i n k : ℕ) (r : R) → k < n
    → ((j : ℕ) → i ≤ j → j < i + n → put l s j (at j) ≡ s) → store_from l s i (set (rows at i n) k r) ≡ put l s (i + k) r
unfolding store_from rows
store_set l fit s at i zero k r lt h = absurd (none lt)
  where
    none : k < 0 → ⊥
    none g = omega arith
store_set {A} l fit s at i (suc n) zero r lt h =
    let p : i + 0 ≡ i = omega arith in
    rw p
    (store_same l (put l s i r) at (i + 1) n
    (λ j lo hi. put_comm l fit s i j r (at j) (omega arith) ∙ ap (λ (x : List A). put l x i r) (h j (omega arith) (omega arith))))
store_set {A} l fit s at i (suc n) (suc k) r lt h =
    let p : i + suc k ≡ (i + 1) + k = omega arith in
    rw p
    (ap (λ (x : List A). store_from l x (i + 1) (set (rows at (i + 1) n) k r)) (h i (omega arith) (omega arith))
    ∙ store_set l fit s at (i + 1) n k r (omega arith) (λ j lo hi. h j (omega arith) (omega arith)))
