-- Given vertices without a cause, 7 included; and a table judged by both causes of its rows.
-- Assumes nothing.
use mathlib.Core.Path.{◌≡◌, refl, ap, sym, ◌∙◌}
use mathlib.Core.Bool.{Bool, true, false}
use mathlib.Core.List.{List}
use Prim.Native.Nat.{ℕ, zero, suc, ◌+◌, ◌*◌, ◌<◌}
use native.Mathlib.Omega.{arith}
use borrow.Author.Tests.{eqb-false, ltb-false}
use lib.Dec.{eqb, ltb, eqb-suc-zero}
use lib.ListN.{length, get_or}
use lib.Ieee.{Float, nan}
use Rattle.compress.specs.Records.{pick}
use Rattle.compress.specs.Rows.{numbers_per_vertex, floats_per_vertex, vertex_kind_at, vertex_of}
use Rattle.checks.specs.Causes.{lower_of, lowest_of, kind_cause, point_cause, vertex_cause, vertex_row_cause, pending_row_cause, table_cause, edges_cause, vertices_cause, pending_cause}
use Rattle.checks.proofs.Accepted.{not_when}
use Rattle.checks.proofs.Lowest.{lower_first, lower_last, lower_none, lower_swap, lower_join, lowest_both}
use Rattle.compress.specs.Shell.{rows_fit}
use Rattle.checks.proofs.tables.Told.{told_none, table_tested}
use Rattle.checks.specs.points.Tables.{tables_cause}

module _ (ns : List ℕ) (fs : List Float) (i : ℕ) where
  -- a row without a cause is that of a given vertex
  pub row_given : lower_of (vertex_row_cause ns fs i) (pending_row_cause ns i) ≡ 0 → vertex_kind_at ns i ≡ 0
  unfolding vertex_row_cause
  row_given e =
      let k = vertex_kind_at ns i in
      let a = lower_none (vertex_row_cause ns fs i) (pending_row_cause ns i) e in
      let h = ltb-false 1 k (not_when (ltb 1 k) 0 (lower_none (kind_cause k) _ a.0).0) in
      let n : k ≡ 1 → ⊥ = eqb-false k 1 (not_when (eqb k 1) 6 a.1) in
      omega arith

  -- and has the cause of its point
  pub row_cause : vertex_kind_at ns i ≡ 0
      → lower_of (vertex_row_cause ns fs i) (pending_row_cause ns i) ≡ point_cause (get_or fs (i * floats_per_vertex) nan) (get_or fs (i * floats_per_vertex + 1) nan) (get_or fs (i * floats_per_vertex + 2) nan)
  unfolding vertex_row_cause vertex_cause vertex_of
  row_cause k = rw k (lower_last _ ∙ lower_first _ ∙ lower_first _)

one_first : (y : ℕ) → lower_of 1 y ≡ 1
unfolding lower_of
one_first zero = refl
one_first (suc y) = rw eqb-suc-zero (omega arith)

by_tests : (a b c : Bool) (x y z : ℕ) → z ≡ lower_of x y
    → pick a 1 (pick b 1 (pick c 1 z)) ≡ lower_of (pick a 1 (pick b 1 (pick c 1 x))) (pick a 0 (pick b 0 y))
by_tests true b c x y z e = sym (one_first 0)
by_tests false true c x y z e = sym (one_first 0)
by_tests false false true x y z e = sym (one_first y)
by_tests false false false x y z e = e

-- a table by both causes of its rows has the lower of both causes of the table: where it does not lie in its slices, 1
table_told : (ns : List ℕ) (fs : List Float) (n : ℕ)
    → table_cause numbers_per_vertex floats_per_vertex (λ i. lower_of (vertex_row_cause ns fs i) (pending_row_cause ns i)) ns fs n ≡ lower_of (vertices_cause ns fs n) (pending_cause ns n)
unfolding vertices_cause pending_cause
table_told ns fs n =
    by_tests (ltb 4096 n) (ltb (length ns) (n * numbers_per_vertex)) (ltb (length fs) (n * floats_per_vertex)) (lowest_of (vertex_row_cause ns fs) n) (lowest_of (pending_row_cause ns) n) _
    (lowest_both (vertex_row_cause ns fs) (pending_row_cause ns) n)

-- a pass over a table of given vertices says whether it has a cause, 7 included
pub points_tested : (ns : List ℕ) (fs : List Float) (n : ℕ) (r : Bool)
    → (r ≡ true → (rows_fit numbers_per_vertex floats_per_vertex ns fs n ≡ true)
    × ((i : ℕ) → i < n → true ≡ eqb (lower_of (vertex_row_cause ns fs i) (pending_row_cause ns i)) 0))
    → (r ≡ false → rows_fit numbers_per_vertex floats_per_vertex ns fs n ≡ true
    → (i : ℕ) × (i < n) × (false ≡ eqb (lower_of (vertex_row_cause ns fs i) (pending_row_cause ns i)) 0))
    → r ≡ eqb (lower_of (vertices_cause ns fs n) (pending_cause ns n)) 0
points_tested ns fs n r all one =
    table_tested numbers_per_vertex floats_per_vertex (λ i. lower_of (vertex_row_cause ns fs i) (pending_row_cause ns i)) ns fs n r all one
    ∙ ap (λ (k : ℕ). eqb k 0) (table_told ns fs n)

-- the causes of both tables, from what the steps gave
pub causes_told : (vn : List ℕ) (vf : List Float) (en : List ℕ) (ef : List Float) (v e : ℕ) {a b r : ℕ}
    → a ≡ table_cause numbers_per_vertex floats_per_vertex (λ i. lower_of (vertex_row_cause vn vf i) (pending_row_cause vn i)) vn vf v → b ≡ edges_cause v en ef e → r ≡ lower_of a b
    → r ≡ tables_cause vn vf en ef v e
unfolding tables_cause
causes_told vn vf en ef v e p q h =
    h ∙ rw (p, q, table_told vn vf v) (lower_join (vertices_cause vn vf v) (pending_cause vn v) (edges_cause v en ef e)
    ∙ ap (lower_of (vertices_cause vn vf v)) (lower_swap (pending_cause vn v) (edges_cause v en ef e)))

-- and where the vertices have none, those of the edges
pub edges_told : (vn : List ℕ) (vf : List Float) (en : List ℕ) (ef : List Float) (v e : ℕ) {b : Bool} {r : ℕ} → b ≡ eqb (lower_of (vertices_cause vn vf v) (pending_cause vn v)) 0 → b ≡ true
    → r ≡ edges_cause v en ef e → r ≡ tables_cause vn vf en ef v e
unfolding tables_cause
edges_told vn vf en ef v e {b} p q h =
    let z = lower_none (vertices_cause vn vf v) (pending_cause vn v) (told_none b _ p q) in
    h ∙ rw (z.0, z.1, lower_first (lower_of (edges_cause v en ef e) 0)) (sym (lower_last (edges_cause v en ef e)))
