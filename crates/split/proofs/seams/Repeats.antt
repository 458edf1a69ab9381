-- Where `repeats_in` stands: the table has an entry for each vertex that stood before, and none stood twice.
-- Assumes nothing.
use mathlib.Core.Path.{◌≡◌, refl, sym}
use mathlib.Core.Bool.{Bool, true, false, ◌||◌}
use mathlib.Core.List.{List, [], ◌∷◌}
use Prim.Native.Nat.{ℕ, zero, suc, ◌+◌, ◌<◌}
use native.Mathlib.Numerals.{add-one}
use native.Mathlib.Omega.{arith}
use borrow.Author.Tests.{eqb-true, eqb-false}
use lib.Dec.{eqb}
use lib.ListN.{length, get_or, set, drop}
use lib.Seq.{drop-cons, drop-length, get_or-set_same, get_or-set_other}
use Rattle.split.specs.seams.Seams.{stands, repeats_after}

-- the vertices that stood before place i, the latest first
unfoldable pub before : List ℕ → ℕ → List ℕ
before ds zero = []
before ds (suc i) = get_or ds i 0 ∷ before ds i

-- The table has an entry for each vertex of the first i, of n vertices.
module _ (ds : List ℕ) (n i : ℕ) (seen : List Bool) (entries : (v : ℕ) → v < n → get_or seen v false ≡ stands v (before ds i)) (lt : i < length ds)
    (below : get_or ds i 0 < n) where
  -- the vertex at place i stood before, or none does that is left
  pub repeats_next : repeats_after (before ds i) (drop i ds) ≡ (get_or seen (get_or ds i 0) false || repeats_after (before ds (i + 1)) (drop (i + 1) ds))
  unfolding repeats_after before
  repeats_next = rw (drop-cons ds i 0 lt, add-one i, entries (get_or ds i 0) below)

  pub entries_more : length seen ≡ n → (v : ℕ) → v < n → get_or (set seen (get_or ds i 0) true) v false ≡ stands v (before ds (i + 1))
  unfolding stands before
  entries_more long v h = rw (add-one i) (by (eqb (get_or ds i 0) v) refl)
    where
      by : (b : Bool) → eqb (get_or ds i 0) v ≡ b → get_or (set seen (get_or ds i 0) true) v false ≡ (b || stands v (before ds i))
      by true q =
          let p : get_or ds i 0 ≡ v = eqb-true _ v q in
          rw (p, get_or-set_same seen v true false (omega arith))
      by false q = rw (get_or-set_other seen (get_or ds i 0) v true false (λ (p : v ≡ get_or ds i 0). eqb-false _ v q (sym p))) (entries v h)

pub none_left : (ds seen : List ℕ) → repeats_after seen (drop (length ds) ds) ≡ false
unfolding repeats_after
none_left ds seen = rw drop-length
