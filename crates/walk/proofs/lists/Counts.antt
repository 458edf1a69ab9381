-- Counting the members of a list that pass a test. Assumes nothing.
use Prim.Native.Nat.{ℕ, ◌+◌}
use native.Mathlib.Omega.{arith}
use mathlib.Core.Path.{◌≡◌}
use mathlib.Core.Bool.{Bool, true, false}
use mathlib.Core.List.{List, [], ◌∷◌, ◌++◌}
use lib.ListN.{length}
use Rattle.walk.specs.lists.Members.{put, filter, count}

abbrev pub bit : Bool → ℕ
bit true = 1
bit false = 0

pub length_put : (t : Bool) (x : ℕ) (l : List ℕ) → length (put t x l) ≡ bit t + length l
length_put true x l = omega arith
length_put false x l = omega arith

pub count_cons : (q : ℕ → Bool) (x : ℕ) (l : List ℕ) → count q (x ∷ l) ≡ bit (q x) + count q l
count_cons q x l = length_put (q x) x (filter q l)

pub count_append : (q : ℕ → Bool) (a b : List ℕ) → count q (a ++ b) ≡ count q a + count q b
count_append q [] b = omega arith
count_append q (x ∷ a) b = omega (arith, count_cons q x (a ++ b), count_cons q x a, count_append q a b)
