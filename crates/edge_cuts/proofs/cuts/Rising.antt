-- Where `rises` stands: what is left to compare rises just if all cuts do. Assumes nothing.
use mathlib.Core.Path.{◌≡◌, refl, ap, ◌∙◌}
use mathlib.Core.Bool.{true, false, ◌&&◌}
use mathlib.Core.List.{List, ◌∷◌}
use Prim.Native.Nat.{ℕ, zero, suc, ◌+◌, ◌-◌, ◌≤◌, ◌<◌}
use native.Mathlib.Omega.{arith}
use lib.Ieee.{lt}
use Rattle.compress.specs.Layout.{rows}
use Rattle.compress.proofs.Layouts.{rows_none, rows_first}
use Rattle.edge_cuts.specs.declared.cuts.Cut.{Cut}
use Rattle.edge_cuts.specs.cuts.Cuts.{rising}

module _ (at : ℕ → Cut) (n i : ℕ) where
  -- the cuts from i - 1 on
  abbrev left : List Cut
  left = rows at (i - 1) (n - (i - 1))

  module _ (lo : 1 ≤ i) (hi : i < n) where
    two : left ≡ at (i - 1) ∷ at i ∷ rows at (i + 1) (n - i - 1)
    two =
        let k = n - i - 1 in
        let p : i - 1 + 1 ≡ i = omega arith in
        rows_first at (i - 1) (n - (i - 1)) (suc k) (omega arith) ∙ rw p (ap (λ (l : List Cut). at (i - 1) ∷ l) (rows_first at i (suc k) k refl))

    more : rising left ≡ (lt (at (i - 1)).t (at i).t && rising (rows at i (n - i)))
    unfolding rising
    more =
        let q : rows at i (n - i) ≡ at i ∷ rows at (i + 1) (n - i - 1) = rows_first at i (n - i) (n - i - 1) (omega arith) in
        rw (two, q) refl

    pub rising_turn : lt (at (i - 1)).t (at i).t ≡ true → rising left ≡ rising (rows at (i + 1 - 1) (n - (i + 1 - 1)))
    rising_turn t =
        let p : i + 1 - 1 ≡ i = omega arith in
        rw p (more ∙ rw t)

    pub rising_not : lt (at (i - 1)).t (at i).t ≡ false → rising left ≡ false
    rising_not t = more ∙ rw t

  pub rising_done : 1 ≤ i → n ≤ i → rising left ≡ true
  unfolding rising
  rising_done lo hi = by (n - (i - 1)) refl
    where
      by : (k : ℕ) → n - (i - 1) ≡ k → rising (rows at (i - 1) (n - (i - 1))) ≡ true
      by zero e = rw (e, rows_none at (i - 1)) refl
      by (suc zero) e = rw (e, rows_first at (i - 1) 1 0 refl, rows_none at (i - 1 + 1)) refl
      by (suc (suc k)) e = absurd (omega arith)
