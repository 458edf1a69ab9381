-- The contract of the call `connect_open_boundaries`: one answer and one content of both lent slices for each input. Definitions only.
use Rattle.std.specs.Prelude.{List, ℕ, ◌+◌, eqb, ltb, length, take, Float}
use Rattle.compress.specs.Records.{pick}
use Rattle.compress.specs.Rows.{edge_at}
use Rattle.compress.specs.Said.{Said, refused_or}
use Rattle.compress.specs.Wires.{total, wires_of}
use Rattle.checks.specs.Causes.{when, lower_of, count_cause, vertex_number_cause, edges_cause, uses_cause}
use Rattle.join.specs.joined.Outcome.{JoinOutcome, join_leaves}
use Rattle.join.specs.Join.{connected}

-- what a call is lent: the edges, two open wires, the uses and the lengths of the new wires, a count of each, and the two vertices
pub record LentJoin : Type 0 where
  pub en : List ℕ
  pub ef : List Float
  pub first : List ℕ
  pub second : List ℕ
  pub us : List ℕ
  pub ls : List ℕ
  pub vertices : ℕ
  pub edges : ℕ
  pub first_count : ℕ
  pub second_count : ℕ
  pub wires : ℕ
  pub v0 : ℕ
  pub v1 : ℕ

-- ---- causes

-- two open wires of n and m uses, and k new wires: "64 wires into a call, 1,024 uses in all wires of a call", a count or the sum of wire
-- lengths above what was lent (1), and every edge number (3)
unfoldable pub join_wires_cause : ℕ → List ℕ → ℕ → List ℕ → ℕ → List ℕ → List ℕ → ℕ → ℕ
join_wires_cause edges a n b m us ls k =
    pick (ltb 64 (k + 2)) 1
    (pick (ltb (length ls) k) 1
    (pick (ltb (length a) n) 1
    (pick (ltb (length b) m) 1
    (pick (ltb 1024 (n + m + total (take k ls))) 1
    (pick (ltb (length us) (total (take k ls))) 1
    (lower_of (uses_cause edges a n) (lower_of (uses_cause edges b m) (uses_cause edges us (total (take k ls))))))))))

-- 15: "An empty open wire in a join"
unfoldable pub empty_cause : ℕ → ℕ → ℕ
empty_cause n m = lower_of (when (eqb n 0) 15) (when (eqb m 0) 15)

-- 1 to 5 and 15, over all that was lent
unfoldable pub join_cause : LentJoin → ℕ
join_cause l =
    lower_of (count_cause 4096 l.vertices)
    (lower_of (edges_cause l.vertices l.en l.ef l.edges)
    (lower_of (vertex_number_cause l.vertices l.v0)
    (lower_of (vertex_number_cause l.vertices l.v1)
    (lower_of (join_wires_cause l.edges l.first l.first_count l.second l.second_count l.us l.ls l.wires) (empty_cause l.first_count l.second_count)))))

-- ---- the call

-- the join of the wires that lie in the slices
abbrev pub joined_in : LentJoin → Said (List (List ℕ))
joined_in l =
    connected (edge_at l.en l.ef) l.v0 l.v1 (take l.first_count l.first) (take l.second_count l.second) (wires_of l.us (take l.wires l.ls))

unfoldable pub join_outcome : LentJoin → JoinOutcome
join_outcome l = join_leaves l.us l.ls (refused_or (join_cause l) (joined_in l))
