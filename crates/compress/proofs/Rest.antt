-- The rest of a list that is lent, as `&mut out[at..]`, and what the list is when it comes back.
-- Assumes nothing.
use mathlib.Core.Path.{◌≡◌, ap, ◌∙◌}
use mathlib.Core.List.{List, [], ◌++◌, append-nil}
use Prim.Native.Nat.{ℕ, ◌+◌, ◌-◌, ◌≤◌}
use native.Mathlib.Omega.{arith}
use lib.ListN.{length, take, drop, length-append, length-drop, drop_of_length-le}
use lib.Seq.{take_all, take-append-add, drop-drop, length-take-le}

module _ {A : Type 0} (out : List A) (at : ℕ) where
  -- it is all that lies from `at` on
  pub rest_all : take (length out - at) (drop at out) ≡ drop at out
  rest_all = take_all (length out - at) (drop at out) (omega (arith, length-drop at out))

  pub rest_length : length (take (length out - at) (drop at out)) ≡ length out - at
  rest_length = ap length rest_all ∙ length-drop at out

  -- it came back as ys: nothing lies behind that
  pub rest_back : (ys : List A) → take at out ++ (ys ++ drop (length out - at) (drop at out)) ≡ take at out ++ ys
  rest_back ys =
      let none : drop (length out - at) (drop at out) ≡ [] = drop_of_length-le (drop at out) {i = length out - at} (omega (arith, length-drop at out)) in
      rw (none, append-nil)

  -- it came back with p over its front
  pub rest_laid : (ys p : List A) → ys ≡ p ++ drop (length p) (take (length out - at) (drop at out))
      → take at out ++ (ys ++ drop (length out - at) (drop at out)) ≡ take at out ++ (p ++ drop (at + length p) out)
  rest_laid ys p e = rest_back ys ∙ rw (e, rest_all, drop-drop (length p) at out)

  -- the front of what came back lies behind what stood before it
  pub rest_front : (ys : List A) (n : ℕ) → at ≤ length out → take (at + n) (take at out ++ (ys ++ drop (length out - at) (drop at out))) ≡ take at out ++ take n ys
  rest_front ys n h =
      let p : at + n ≡ length (take at out) + n = omega (arith, length-take-le at out h) in
      rw (rest_back ys, p, take-append-add)

  pub rest_same : (ys : List A) → at ≤ length out → length ys ≡ length out - at → length (take at out ++ (ys ++ drop (length out - at) (drop at out))) ≡ length out
  rest_same ys h g = ap length (rest_back ys) ∙ length-append (take at out) ys ∙ omega (arith, length-take-le at out h)
