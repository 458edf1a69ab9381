-- Tables without a cause, 7 included.
-- Assumes nothing.
use mathlib.Core.Path.{◌≡◌}
use mathlib.Core.List.{List}
use Prim.Native.Nat.{ℕ}
use lib.Ieee.{Float}
use Rattle.checks.specs.Causes.{vertices_cause, edges_cause, pending_cause}
use Rattle.checks.proofs.Lowest.{lower_none}
use Rattle.checks.specs.points.Tables.{tables_cause}

pub record TablesAccepted (vn : List ℕ) (vf : List Float) (en : List ℕ) (ef : List Float) (v e : ℕ) : Type 0 where
  pub vertices : vertices_cause vn vf v ≡ 0
  pub edges : edges_cause v en ef e ≡ 0
  pub given : pending_cause vn v ≡ 0

pub tables_accepted : (vn : List ℕ) (vf : List Float) (en : List ℕ) (ef : List Float) (v e : ℕ) → tables_cause vn vf en ef v e ≡ 0 → TablesAccepted vn vf en ef v e
unfolding tables_cause
tables_accepted vn vf en ef v e q =
    let a = lower_none (vertices_cause vn vf v) _ q in
    let b = lower_none (edges_cause v en ef e) (pending_cause vn v) a.1 in
    record { vertices = a.0; edges = b.0; given = b.1 }
