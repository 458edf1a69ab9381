-- Where the loops over marks and uses stand: the edges of the face counted, the new edges marked, and their uses written.
-- Assumes nothing.
use mathlib.Core.Path.{◌≡◌, refl, sym}
use mathlib.Core.Bool.{Bool, true, false}
use mathlib.Core.List.{List, [], ◌∷◌, ◌++◌}
use Prim.Native.Nat.{ℕ, zero, suc, ◌+◌, ◌*◌, ◌/◌, ◌≤◌, ◌<◌}
use native.Mathlib.Numerals.{add-one}
use native.Mathlib.Omega.{arith}
use borrow.Author.Tests.{eqb-true, eqb-false}
use lib.Dec.{eqb}
use lib.ListN.{length, get_or, set, take}
use lib.Seq.{take-suc, length-take-le, get_or-set_same, get_or-set_other}
use Rattle.compress.specs.Records.{pick}
use Rattle.walk.specs.marks.Marks.{new_uses, occurs}

-- ---- `duplicated_edges`

pub occurs_more : (e : ℕ) (l : List ℕ) (u : ℕ) → occurs e (l ++ (u ∷ [])) ≡ occurs e l + pick (eqb (u / 2) e) 1 0
unfolding occurs
occurs_more e [] u = omega arith
occurs_more e (x ∷ l) u = omega (arith, occurs_more e l u)

one_le : (b : Bool) → pick b 1 0 ≤ 1
one_le true = omega arith
one_le false = omega arith

pub occurs_le : (e : ℕ) (l : List ℕ) → occurs e l ≤ length l
unfolding occurs
occurs_le e [] = omega arith
occurs_le e (u ∷ l) = omega (arith, occurs_le e l, one_le (eqb (u / 2) e))

-- the first i uses of the face are counted, in a table of n entries
module _ (face ms : List ℕ) (i n : ℕ) (counted : (k : ℕ) → k < n → get_or ms k 0 ≡ occurs k (take i face)) (lt : i < length face)
    (long : length ms ≡ n) (known : get_or face i 0 / 2 < n) where
  pub count_le : get_or ms (get_or face i 0 / 2) 0 ≤ i
  count_le = omega (arith, counted (get_or face i 0 / 2) known, occurs_le (get_or face i 0 / 2) (take i face), length-take-le i face (omega arith))

  counted_next : (k : ℕ) (b : Bool) → eqb (get_or face i 0 / 2) k ≡ b → k < n
      → get_or (set ms (get_or face i 0 / 2) (get_or ms (get_or face i 0 / 2) 0 + 1)) k 0 ≡ occurs k (take i face) + pick b 1 0
  counted_next k true q h =
      let p : get_or face i 0 / 2 ≡ k = eqb-true _ k q in
      rw (p, get_or-set_same ms k (get_or ms k 0 + 1) 0 (omega arith), counted k h)
  counted_next k false q h =
      let z : occurs k (take i face) + 0 ≡ occurs k (take i face) = omega arith in
      rw (get_or-set_other ms (get_or face i 0 / 2) k (get_or ms (get_or face i 0 / 2) 0 + 1) 0 (λ (p : k ≡ get_or face i 0 / 2). eqb-false _ k q (sym p)), z) (counted k h)

  -- and one more
  pub counted_more : (k : ℕ) → k < n → get_or (set ms (get_or face i 0 / 2) (get_or ms (get_or face i 0 / 2) 0 + 1)) k 0 ≡ occurs k (take (i + 1) face)
  counted_more k h = rw (add-one i, take-suc face i 0 lt, occurs_more k (take i face) (get_or face i 0)) (counted_next k (eqb (get_or face i 0 / 2) k) refl h)

-- ---- the uses of new edges

pub length_new_uses : (m k : ℕ) → length (new_uses m k) ≡ k * 2
unfolding new_uses
length_new_uses m zero = refl
length_new_uses m (suc k) = omega (arith, length_new_uses (m + 1) k)

pub get_or_new_uses : (m k i : ℕ) → i < k * 2 → get_or (new_uses m k) i 0 ≡ m * 2 + i
unfolding new_uses
get_or_new_uses m zero i h = absurd (omega arith)
get_or_new_uses m (suc k) zero h = omega arith
get_or_new_uses m (suc k) (suc zero) h = refl
get_or_new_uses m (suc k) (suc (suc i)) h = omega (arith, get_or_new_uses (m + 1) k i (omega arith))
