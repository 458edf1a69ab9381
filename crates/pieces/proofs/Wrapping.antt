-- A count that may wrap and does not. Assumes nothing.
use mathlib.Core.Path.{◌≡◌, refl}
use mathlib.Core.Bool.{Bool, true, false}
use mathlib.Core.List.{List, [], ◌∷◌}
use Prim.Native.Nat.{ℕ, ◌+◌, ◌%◌, ◌≤◌, ◌<◌}
use native.Mathlib.Omega.{arith}
use lib.ListN.{length}
use Rattle.std.specs.Prelude.{cond, fold}

module _ (p : ℕ → Bool) where
  bit_small : (b : Bool) → cond b 1 0 ≤ 1
  bit_small true = omega arith
  bit_small false = omega arith

  -- what is summed wrapping is what is summed, where there is no room to wrap
  pub unwrapped : (us : List ℕ) (s : ℕ) → s + length us < 4294967296
      → fold (λ n u. (n + cond (p u) 1 0) % 4294967296) s us ≡ fold (λ n u. n + cond (p u) 1 0) s us
  unwrapped [] s h = refl
  unwrapped (u ∷ us) s h =
      let b = bit_small (p u) in
      let e : (s + cond (p u) 1 0) % 4294967296 ≡ s + cond (p u) 1 0 = omega (arith, b, h) in
      rw e (unwrapped us (s + cond (p u) 1 0) (omega (arith, b, h)))
