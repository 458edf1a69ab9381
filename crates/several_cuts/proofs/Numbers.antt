-- The pieces of edge i of n, by their numbers: each stands once among those of its mother, and among no other's. Assumes nothing.
use mathlib.Core.Path.{◌≡◌, refl, sym}
use mathlib.Core.Bool.{Bool, true, false}
use mathlib.Core.List.{[], ◌∷◌}
use Prim.Native.Nat.{ℕ, zero, suc, ◌+◌, ◌≤◌, ◌<◌}
use native.Mathlib.Omega.{arith}
use borrow.Author.Tests.{eqb-true, eqb-false, eq-eqb, ltb-true, ltb-false}
use lib.Dec.{eqb, ltb}
use Rattle.std.specs.Prelude.{cond, count_by}
use Rattle.std.specs.List.{range_with_len}
use Rattle.compress.specs.Records.{pick}
use Rattle.pieces.specs.Pieces.{parts_of}
use Rattle.several_cuts.specs.Mothers.{mother_of}
use Rattle.several_cuts.proofs.Uses.{count_first, no_bit}

count_before : (p n k : ℕ) → p < n → count_by (eqb p) (range_with_len n k) ≡ 0
count_before p n zero h = refl
count_before p n (suc k) h =
    rw (count_first (eqb p) n (range_with_len (n + 1) k), no_bit p n (λ (e : p ≡ n). omega arith), count_before p (n + 1) k (omega arith)) refl

count_among : (p n k : ℕ) → n ≤ p → p < n + k → count_by (eqb p) (range_with_len n k) ≡ 1
count_among p n zero h g = absurd (omega arith)
count_among p n (suc k) h g = go (eqb p n) refl (λ a. count_among p (n + 1) k a (omega arith))
  where
    go : (t : Bool) → eqb p n ≡ t → (n + 1 ≤ p → count_by (eqb p) (range_with_len (n + 1) k) ≡ 1) → count_by (eqb p) (range_with_len n (suc k)) ≡ 1
    go true e later =
        let q = eqb-true p n e in
        rw (count_first (eqb p) n (range_with_len (n + 1) k), e, count_before p (n + 1) k (omega arith)) refl
    go false e later =
        let q = eqb-false p n e in
        rw (count_first (eqb p) n (range_with_len (n + 1) k), e, later (omega (arith, q))) refl

pub each : (i n k e p : ℕ) → e < n → p < n + k → count_by (eqb p) (parts_of i n k e) ≡ cond (eqb (mother_of n i p) e) 1 0
unfolding parts_of mother_of
each i n k e p he hp = by (eqb e i) (ltb p n) refl refl
  where
    alone : count_by (eqb p) (e ∷ []) ≡ cond (eqb p e) 1 0
    alone = rw (count_first (eqb p) e []) (omega arith)

    by : (b t : Bool) → eqb e i ≡ b → ltb p n ≡ t → count_by (eqb p) (pick b (e ∷ range_with_len n k) (e ∷ [])) ≡ cond (eqb (pick t p i) e) 1 0
    by true true eb et =
        rw (count_first (eqb p) e (range_with_len n k), count_before p n k (ltb-true p n et)) (omega arith)
    by true false eb et =
        let g = ltb-false p n et in
        rw (count_first (eqb p) e (range_with_len n k), no_bit p e (λ (q : p ≡ e). omega (arith, g)), count_among p n k g hp, eq-eqb i e (sym (eqb-true e i eb))) refl
    by false true eb et = alone
    by false false eb et =
        let g = ltb-false p n et in
        rw (count_first (eqb p) e [], no_bit p e (λ (q : p ≡ e). omega (arith, g)), no_bit i e (λ q. eqb-false e i eb (sym q))) refl
