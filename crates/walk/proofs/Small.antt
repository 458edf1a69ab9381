-- Small laws that the proofs of several functions cite.
-- Assumes nothing.
use Prim.Native.Nat.{ℕ, ◌-◌, ◌%◌, ◌<◌}
use native.Mathlib.Omega.{arith}
use mathlib.Core.Path.{◌≡◌}
use mathlib.Core.List.{List}
use lib.ListN.{length, get_or}
use Rattle.walk.specs.lists.Ends.{front_of, back_of, Sound}

-- what the caller has checked, of the use u at a place of us
module _ {en ds : List ℕ} {edges : ℕ} {ms us : List ℕ} (S : Sound en ds edges ms us) where
  pub front_small : (i : ℕ) → i < length us → front_of en ds edges (get_or us i 0) < 4096
  front_small i h = S.small i (get_or us i 0 % 2) h (omega arith)

  pub back_small : (i u : ℕ) → i < length us → u ≡ get_or us i 0 → back_of en ds edges u < 4096
  back_small i u h e = rw e (S.small i (1 - get_or us i 0 % 2) h (omega arith))
