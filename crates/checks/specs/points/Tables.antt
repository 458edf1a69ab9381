-- Causes 1 to 5 and 7 of the tables of a call that reads points. Definitions only.
use Rattle.std.specs.Prelude.{List, ℕ, Float}
use Rattle.checks.specs.Causes.{lower_of, vertices_cause, edges_cause, pending_cause}

unfoldable pub tables_cause : List ℕ → List Float → List ℕ → List Float → ℕ → ℕ → ℕ
tables_cause vn vf en ef v e = lower_of (vertices_cause vn vf v) (lower_of (edges_cause v en ef e) (pending_cause vn v))
