-- Where `create_new_edges` stands: in both slices what is left to store gives the same at each turn.
-- Assumes nothing.
use mathlib.Core.Path.{◌≡◌, refl, ◌∙◌}
use mathlib.Core.List.{List, ◌∷◌}
use Prim.Native.Nat.{ℕ, suc, ◌+◌, ◌-◌, ◌*◌, ◌<◌}
use native.Mathlib.Omega.{arith}
use lib.Ieee.{Float}
use Rattle.compress.specs.declared.Edge.{Edge}
use Rattle.compress.specs.Layout.{Layout, put, store_from, rows}
use Rattle.compress.proofs.Layouts.{store_first, store_none, rows_none, rows_first}
use Rattle.split.specs.seams.Seams.{stop_at, seam_of, seams_of}

module _ (ds : List ℕ) (fs : List Float) (surface n : ℕ) where
  -- the seams that are left from pair i on
  abbrev pub left : ℕ → List Edge
  left i = seams_of surface (rows (stop_at ds fs) (i * 2) ((n - i) * 2))

  pub left_first : (i : ℕ) → i < n → left i ≡ seam_of surface (stop_at ds fs (i * 2)) (stop_at ds fs (i * 2 + 1)) ∷ left (i + 1)
  unfolding seams_of
  left_first i lt =
      let k = (n - (i + 1)) * 2 in
      let p : rows (stop_at ds fs) (i * 2) ((n - i) * 2) ≡ stop_at ds fs (i * 2) ∷ rows (stop_at ds fs) (i * 2 + 1) (suc k)
      = rows_first (stop_at ds fs) (i * 2) ((n - i) * 2) (suc k) (omega arith) in
      let q : rows (stop_at ds fs) (i * 2 + 1) (suc k) ≡ stop_at ds fs (i * 2 + 1) ∷ rows (stop_at ds fs) (i * 2 + 1 + 1) k
      = rows_first (stop_at ds fs) (i * 2 + 1) (suc k) k refl in
      let r : i * 2 + 1 + 1 ≡ (i + 1) * 2 = omega arith in
      rw (p, q, r)

  module _ {A : Type 0} (l : Layout A Edge) (edges : ℕ) (s₀ : List A) where
    -- the seams that are left, stored over the slice, give the same at each turn
    abbrev pub Adding : List A → ℕ → Type 0
    Adding s i = store_from l s (edges + i) (left i) ≡ store_from l s₀ edges (left 0)

    pub adding_start : Adding s₀ 0
    adding_start =
        let p : edges + 0 ≡ edges = omega arith in
        rw p

    pub adding_more : (s s' : List A) (i : ℕ) (e : Edge) → Adding s i → i < n → e ≡ seam_of surface (stop_at ds fs (i * 2)) (stop_at ds fs (i * 2 + 1))
        → s' ≡ put l s (edges + i) e → Adding s' (i + 1)
    adding_more s s' i e M lt q r =
        let p : edges + (i + 1) ≡ edges + i + 1 = omega arith in
        let f : store_from l (put l s (edges + i) e) (edges + (i + 1)) (left (i + 1)) ≡ store_from l s (edges + i) (left i)
        = rw (left_first i lt, store_first, p, q) in
        rw r (f ∙ M)

    pub adding_done : (s : List A) (i : ℕ) → Adding s i → n ≡ i → s ≡ store_from l s₀ edges (seams_of surface (rows (stop_at ds fs) 0 (n * 2)))
    unfolding seams_of
    adding_done s i M h =
        let a : (n - i) * 2 ≡ 0 = omega arith in
        let b : (n - 0) * 2 ≡ n * 2 = omega arith in
        let z = rows_none (stop_at ds fs) (i * 2) in
        rw (a, b, z, store_none) at M
