-- A test that says whether there is a cause, and that of a point.
-- Assumes nothing.
use mathlib.Core.Path.{◌≡◌, refl, sym, ◌∙◌}
use mathlib.Core.Bool.{Bool, true, false, not, ◌&&◌}
use mathlib.Core.List.{List}
use Prim.Native.Nat.{ℕ, ◌*◌, ◌<◌}
use borrow.Author.Tests.{eqb-true, eqb-false, eq-eqb, ne_eqb, le-leb, ltb-false}
use lib.Dec.{eqb, ltb}
use lib.ListN.{length}
use lib.Ieee.{Float}
use Rattle.floats.specs.Exact.{sized_of}
use Rattle.compress.specs.Shell.{rows_fit}
use Rattle.checks.specs.Causes.{when, lower_of, float_cause, point_cause, table_cause}
use Rattle.checks.proofs.Accepted.{passed}
use Rattle.checks.proofs.Lowest.{lowest_none}
use Rattle.checks.proofs.Sound.{table_passed}

-- ---- a test that says whether a cause is 0
pub told_none : (b : Bool) (n : ℕ) → b ≡ eqb n 0 → b ≡ true → n ≡ 0
told_none b n q e = eqb-true n 0 (sym q ∙ e)

pub tells_no : (n : ℕ) → (n ≡ 0 → ⊥) → false ≡ eqb n 0
tells_no n h = sym (ne_eqb n 0 h)

tells_yes : (n : ℕ) → n ≡ 0 → true ≡ eqb n 0
tells_yes n h = sym (eq-eqb n 0 h)

-- a pass over a table says whether it has a cause, where each test says whether its row has one
pub table_tested : (w v : ℕ) (f : ℕ → ℕ) (ns : List ℕ) (fs : List Float) (n : ℕ) (r : Bool)
    → (r ≡ true → (rows_fit w v ns fs n ≡ true) × ((i : ℕ) → i < n → true ≡ eqb (f i) 0))
    → (r ≡ false → rows_fit w v ns fs n ≡ true → (i : ℕ) × (i < n) × (false ≡ eqb (f i) 0))
    → r ≡ eqb (table_cause w v f ns fs n) 0
table_tested w v f ns fs n true all one =
    let y = all refl in
    tells_yes (table_cause w v f ns fs n) (sym (table_passed w v f ns fs n y.0 (λ i h. told_none true (f i) (y.1 i h) refl)))
table_tested w v f ns fs n false all one =
    tells_no (table_cause w v f ns fs n) (λ z.
    let a = passed (ltb 4096 n) _ z in
    let b = passed (ltb (length ns) (n * w)) _ a.1 in
    let c = passed (ltb (length fs) (n * v)) _ b.1 in
    let p : rows_fit w v ns fs n ≡ true = rw (le-leb n 4096 (ltb-false 4096 n a.0), le-leb (n * w) (length ns) (ltb-false (length ns) (n * w) b.0), le-leb (n * v) (length fs) (ltb-false (length fs) (n * v) c.0)) refl in
    let k = one refl p in
    eqb-false (f k.0) 0 (sym k.2) (lowest_none f n k.0 c.1 k.1))

-- ---- points
by_three : (a b c : Bool) → (a && b && c) ≡ eqb (lower_of (when (not a) 4) (lower_of (when (not b) 4) (when (not c) 4))) 0
unfolding lower_of
by_three true true true = refl
by_three true true false = refl
by_three true false true = refl
by_three true false false = refl
by_three false true true = refl
by_three false true false = refl
by_three false false true = refl
by_three false false false = refl

pub point_test : (x y z : Float) → (sized_of x && sized_of y && sized_of z) ≡ eqb (point_cause x y z) 0
unfolding point_cause float_cause
point_test x y z = by_three (sized_of x) (sized_of y) (sized_of z)
