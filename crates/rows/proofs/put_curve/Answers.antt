use mathlib.Core.Path.{◌≡◌}
use mathlib.Core.List.{List}
use Prim.Native.Nat.{ℕ, ◌+◌, ◌≤◌, ◌<◌}
use native.Mathlib.Omega.{arith}
use lib.Ieee.{Float}
use lib.ListN.{length, set, length-set}
use Rattle.compress.proofs.Cells.{run2, run6}
use Rattle.rows.proofs.put_curve.Goals as goal

-- the cells behind those that were set lie in the list still
module _ (fs : List Float) (j : ℕ) (h : j + 6 ≤ length fs) (a : Float) where
  in_set1 : j + 1 < length (set fs j a)
  in_set1 = rw (length-set fs j a) (omega (arith, h))

  in_set2 : (b : Float) → j + 2 < length (set (set fs j a) (j + 1) b)
  in_set2 b = simp length-set (omega (arith, h))

  in_set3 : (b d : Float) → j + 3 < length (set (set (set fs j a) (j + 1) b) (j + 2) d)
  in_set3 b d = simp length-set (omega (arith, h))

  in_set4 : (b d e : Float) → j + 4 < length (set (set (set (set fs j a) (j + 1) b) (j + 2) d) (j + 3) e)
  in_set4 b d e = simp length-set (omega (arith, h))

  in_set5 : (b d e f : Float) → j + 5 < length (set (set (set (set (set fs j a) (j + 1) b) (j + 2) d) (j + 3) e) (j + 4) f)
  in_set5 b d e f = simp length-set (omega (arith, h))

-- six cells set leave the length as it was
set_six : (fs : List Float) (j : ℕ) (a b d e f g : Float)
    → length (set (set (set (set (set (set fs j a) (j + 1) b) (j + 2) d) (j + 3) e) (j + 4) f) (j + 5) g) ≡ length fs
set_six fs j a b d e f g = simp length-set

pub bounds-floats-j-in-Span : goal.bounds-floats-j-in-Span
bounds-floats-j-in-Span c = simp length-set (omega (arith, c.requires))

pub shape_of-floats-in-Span : goal.shape_of-floats-in-Span
shape_of-floats-in-Span c = simp length-set

pub returns-in-Span : goal.returns-in-Span
returns-in-Span c = rw (c.in-Span.is, run2)

pub returns-in-Seam : goal.returns-in-Seam
returns-in-Seam c = rw (c.in-Seam.is, run6)
