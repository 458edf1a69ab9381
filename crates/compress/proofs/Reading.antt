-- Rows that were stored, read back, for any layout: cell by cell, and as records that lie in two slices.
-- Assumes nothing.
use mathlib.Core.Path.{◌≡◌, refl, ◌∙◌}
use mathlib.Core.List.{List, [], ◌∷◌}
use mathlib.Core.Logic.{inl}
use Prim.Native.Nat.{ℕ, zero, suc, ◌+◌, ◌*◌, ◌≤◌, ◌<◌}
use native.Mathlib.Omega.{arith}
use lib.ListN.{length, get_or}
use Rattle.compress.specs.Layout.{Layout, put, store_from, rows}
use Rattle.compress.proofs.Cells.{row_below}
use Rattle.compress.proofs.Layouts.{Fits, length_put, store_first, store_none, put_at, put_out, rows_none, rows_first}

-- ---- cells
module _ {A R : Type 0} (l : Layout A R) (fit : Fits l) (a : A) where
  -- a cell of a row before those that are stored keeps what it held
  pub cell_before : (rs : List R) (s : List A) (i m : ℕ) → m < i * l.width → get_or (store_from l s i rs) m a ≡ get_or s m a
  cell_before [] s i m h = rw (store_none l s i)
  cell_before (r ∷ rs) s i m h =
      let b = row_below i (i + 1) l.width (omega arith) in
      rw (store_first l s i r rs) (cell_before rs (put l s i r) (i + 1) m (omega arith) ∙ put_out l fit a s i m r (inl h))

  -- the cell that is k cells into record j reads what the record has there
  pub cell_read : (d : R) (rs : List R) (s : List A) (i j k m : ℕ) → j < length rs → m ≡ ((i + j) * l.width + l.first (get_or rs j d)) + k
      → k < length (l.cells (get_or rs j d)) → (i + length rs) * l.width ≤ length s → get_or (store_from l s i rs) m a ≡ get_or (l.cells (get_or rs j d)) k a
  unfolding Fits
  cell_read d [] s i j k m lt e hk h = absurd (omega arith)
  cell_read d (r ∷ rs) s i zero k m lt e hk h =
      let z : i + 0 ≡ i = omega arith in
      let b = row_below i (i + 1) l.width (omega arith) in
      let c = row_below i (i + length (r ∷ rs)) l.width (omega arith) in
      let q : m ≡ (i * l.width + l.first r) + k = rw z at e in
      rw (store_first l s i r rs)
      (cell_before rs (put l s i r) (i + 1) m (omega (arith, fit r)) ∙ put_at l a s i k m r q hk (omega (arith, fit r)))
  cell_read d (r ∷ rs) s i (suc j) k m lt e hk h =
      let p : i + length (r ∷ rs) ≡ (i + 1) + length rs = omega arith in
      let q : i + suc j ≡ (i + 1) + j = omega arith in
      rw (store_first l s i r rs)
      (cell_read d rs (put l s i r) (i + 1) j k m (omega arith) (rw q at e) hk (rw (length_put l s i r, ← p) h))

-- ---- records
-- How records lie in two slices, and how a row is read: what was put is read back, and other rows are untouched.
pub record Reader (A B R : Type 0) : Type 0 where
  pub numbers : Layout A R
  pub floats : Layout B R
  pub at : List A → List B → ℕ → R
  pub same : (ns : List A) (fs : List B) (i : ℕ) (r : R) → i * numbers.width + numbers.width ≤ length ns → i * floats.width + floats.width ≤ length fs
      → at (put numbers ns i r) (put floats fs i r) i ≡ r
  pub other : (ns : List A) (fs : List B) (i : ℕ) (r : R) (m : ℕ) → (m ≡ i → ⊥) → at (put numbers ns i r) (put floats fs i r) m ≡ at ns fs m

module _ {A B R : Type 0} (t : Reader A B R) where
  -- a row before those that are stored keeps its record
  pub store_before : (rs : List R) (ns : List A) (fs : List B) (i m : ℕ) → m < i
      → t.at (store_from t.numbers ns i rs) (store_from t.floats fs i rs) m ≡ t.at ns fs m
  store_before [] ns fs i m h = rw (store_none t.numbers ns i, store_none t.floats fs i)
  store_before (r ∷ rs) ns fs i m h =
      rw (store_first t.numbers ns i r rs, store_first t.floats fs i r rs)
      (store_before rs (put t.numbers ns i r) (put t.floats fs i r) (i + 1) m (omega arith) ∙ t.other ns fs i r m (λ e. omega arith))

  -- the rows that were stored hold the records
  pub store_read : (rs : List R) (ns : List A) (fs : List B) (i : ℕ) → (i + length rs) * t.numbers.width ≤ length ns → (i + length rs) * t.floats.width ≤ length fs
      → rows (t.at (store_from t.numbers ns i rs) (store_from t.floats fs i rs)) i (length rs) ≡ rs
  store_read [] ns fs i hn hf = rows_none _ i
  store_read (r ∷ rs) ns fs i hn hf =
      let p : i + length (r ∷ rs) ≡ (i + 1) + length rs = omega arith in
      let ns₁ = put t.numbers ns i r in
      let fs₁ = put t.floats fs i r in
      let ln : length ns₁ ≡ length ns = length_put t.numbers ns i r in
      let lf : length fs₁ ≡ length fs = length_put t.floats fs i r in
      let wn = row_below i (i + length (r ∷ rs)) t.numbers.width (omega arith) in
      let wf = row_below i (i + length (r ∷ rs)) t.floats.width (omega arith) in
      let here : t.at (store_from t.numbers ns₁ (i + 1) rs) (store_from t.floats fs₁ (i + 1) rs) i ≡ r
      = store_before rs ns₁ fs₁ (i + 1) i (omega arith) ∙ t.same ns fs i r (omega arith) (omega arith) in
      let rest : rows (t.at (store_from t.numbers ns₁ (i + 1) rs) (store_from t.floats fs₁ (i + 1) rs)) (i + 1) (length rs) ≡ rs
      = store_read rs ns₁ fs₁ (i + 1) (rw (ln, ← p) hn) (rw (lf, ← p) hf) in
      rw (store_first t.numbers ns i r rs, store_first t.floats fs i r rs)
      (rows_first _ i (length (r ∷ rs)) (length rs) refl ∙ rw (here, rest))
