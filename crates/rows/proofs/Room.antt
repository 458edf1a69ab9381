-- How many rows a table has room for, from the least of three numbers. Assumes nothing.
use Rattle.std.proofs.Common.{◌≡◌, refl, sym, ℕ, ◌+◌, ◌-◌, ◌*◌, ◌/◌, ◌≤◌, ◌<◌, Bool, true, false, min, leb, List, Float, length}
use Rattle.std.proofs.Common.{arith}
use borrow.Author.Tests.{leb-true, le-leb}
use Rattle.std.proofs.lemmas.Nat.{le-div, div-add-mod'}
use Rattle.std.proofs.Math.Nat.{mul-le-mul_right}
use Rattle.compress.specs.Shell.{rows_fit}
use Rattle.compress.proofs.Room.{rows_room}

-- the lesser of two numbers: at most both, and as large as it can be
pub record Least (a b r : ℕ) : Type 0 where
  pub first : r ≤ a
  pub second : r ≤ b
  pub most : (k : ℕ) → k ≤ a → k ≤ b → k ≤ r

pub least : (a b r : ℕ) → r ≡ min a b → Least a b r
least a b r e = record { first = omega arith; second = omega arith; most = λ k x y. omega arith }

-- two tests that hold alike are the same
pub same_test : (a b : Bool) → (a ≡ true → b ≡ true) → (b ≡ true → a ≡ true) → a ≡ b
same_test true b f g = sym (f refl)
same_test false true f g = g refl
same_test false false f g = refl

-- so many rows of w cells have their cells
held_cells : (k n w : ℕ) → k ≤ n / w → k * w ≤ n
held_cells k n w h = omega (arith, mul-le-mul_right w h, div-add-mod' n w)

module _ (w v : ℕ) (W : 0 < w) (V : 0 < v) (ns : List ℕ) (fs : List Float) (n : ℕ) (fit : rows_fit w v ns fs n ≡ true)
    (a r : ℕ) (la : Least (length ns / w) (length fs / v) a) (lr : Least a 4096 r) where
  below : (k : ℕ) → rows_fit w v ns fs k ≡ true → k ≤ r
  below k e =
      let p = rows_room w v ns fs k e in
      lr.most k (la.most k (le-div k (length ns) w W p.1) (le-div k (length fs) v V p.2)) p.0

  pub held_in : n ≤ r
  held_in = below n fit

  pub room_for : (k : ℕ) → leb k (r - n) ≡ rows_fit w v ns fs (n + k)
  room_for k = same_test (leb k (r - n)) (rows_fit w v ns fs (n + k)) to from
    where
      to : leb k (r - n) ≡ true → rows_fit w v ns fs (n + k) ≡ true
      to e =
          let h : n + k ≤ r = omega (arith, leb-true k (r - n) e, held_in) in
          let a4 : n + k ≤ 4096 = omega (arith, h, lr.second) in
          let l : n + k ≤ a = omega (arith, h, lr.first) in
          let x : (n + k) * w ≤ length ns = held_cells (n + k) (length ns) w (omega (arith, l, la.first)) in
          let y : (n + k) * v ≤ length fs = held_cells (n + k) (length fs) v (omega (arith, l, la.second)) in
          rw (le-leb (n + k) 4096 a4, le-leb ((n + k) * w) (length ns) x, le-leb ((n + k) * v) (length fs) y) refl

      from : rows_fit w v ns fs (n + k) ≡ true → leb k (r - n) ≡ true
      from e = le-leb k (r - n) (omega (arith, below (n + k) e, held_in))

pub fitting : (w v : ℕ) (ns : List ℕ) (fs : List Float) (n : ℕ) → n ≤ 4096 → n * w ≤ length ns → n * v ≤ length fs → rows_fit w v ns fs n ≡ true
fitting w v ns fs n a b c = rw (le-leb n 4096 a, le-leb (n * w) (length ns) b, le-leb (n * v) (length fs) c) refl
