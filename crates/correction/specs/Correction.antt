-- The call `nearest_correction`: what it refuses, and what it answers. Definitions only.
use Rattle.std.specs.Prelude.{List, ℕ, ◌+◌, ltb, length, take, Float}
use Rattle.compress.specs.Records.{pick}
use Rattle.compress.specs.Rows.{edge_at, vertex_at}
use Rattle.compress.specs.Said.{Said, refused_or}
use Rattle.checks.specs.Causes.{lower_of, uses_cause, vertex_number_cause}
use Rattle.checks.specs.points.Tables.{tables_cause}
use Rattle.correction.specs.declared.nearest.Ends.{Ends}
use Rattle.correction.specs.nearest.Ends.{nearest_ends}

-- two stretches of n and m uses: "a count .. is above what was lent", "1,024 uses in all wires of a call", and their edge numbers
unfoldable pub stretches_cause : ℕ → List ℕ → ℕ → List ℕ → ℕ → ℕ
stretches_cause edges a n b m =
    pick (ltb (length a) n) 1
    (pick (ltb (length b) m) 1
    (pick (ltb 1024 (n + m)) 1 (lower_of (uses_cause edges a n) (uses_cause edges b m))))

-- what a call is lent: vertices and edges, two stretches, a count of each, and the vertex that they are seen from
pub record LentStretches : Type 0 where
  pub vn : List ℕ
  pub vf : List Float
  pub en : List ℕ
  pub ef : List Float
  pub first : List ℕ
  pub second : List ℕ
  pub vertices : ℕ
  pub edges : ℕ
  pub first_count : ℕ
  pub second_count : ℕ
  pub v0 : ℕ

unfoldable pub ends_cause : LentStretches → ℕ
ends_cause l =
    lower_of (tables_cause l.vn l.vf l.en l.ef l.vertices l.edges)
    (lower_of (vertex_number_cause l.vertices l.v0) (stretches_cause l.edges l.first l.first_count l.second l.second_count))

unfoldable pub nearest_correction : LentStretches → Said Ends
nearest_correction l =
    refused_or (ends_cause l)
    (nearest_ends (edge_at l.en l.ef) (vertex_at l.vn l.vf) l.v0 (take l.first_count l.first) (take l.second_count l.second))
