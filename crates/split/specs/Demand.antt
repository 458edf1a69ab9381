-- Demand 3, of the lent input and the lent output of a split: no directed edge use is lost. Definitions only.
use Rattle.std.specs.Prelude.{◌≡◌, ◌≢◌, ◌⊎◌, Bool, List, [], ℕ, ◌+◌, ◌≤◌, ◌<◌, eqb, get_or, take}
use Rattle.compress.specs.Records.{pick, edge_of_use}
use Rattle.compress.specs.Said.{result, refused}
use Rattle.compress.specs.Wires.{wires_of, uses_of}
use Rattle.walk.specs.lists.Members.{count}
use Rattle.walk.specs.Claim.{Wire, out, into}
use Rattle.walk.specs.marks.Marks.{is_new_edge}
use Rattle.split.specs.declared.Boundaries.{Boundaries}
use Rattle.split.specs.Split.{front_after, back_after, uses_to_walk}
use Rattle.split.specs.Contract.{given_in, SplitOutcome}
use Rattle.split.specs.split_causes.Causes.{Buffers, LentSplit, rebuilt_total, pairs, split_cause}

-- the front and the back of a use: "those of the lent edges and of the pairs"
abbrev pub front_in : LentSplit → ℕ → ℕ
front_in l = front_after (given_in l)

abbrev pub back_in : LentSplit → ℕ → ℕ
back_in l = back_after (given_in l)

-- how many of the uses to be rebuilt and of the seams' uses have the vertex v as their front, and as their back
abbrev pub fronts_at : LentSplit → ℕ → ℕ
fronts_at l v = out (front_in l) v (uses_to_walk (given_in l))

abbrev pub backs_at : LentSplit → ℕ → ℕ
backs_at l v = into (back_in l) v (uses_to_walk (given_in l))

-- each vertex is the front of as many uses as it is the back of
abbrev pub Balanced : LentSplit → Type 0
Balanced l = (v : ℕ) → v < l.vertices → fronts_at l v ≡ backs_at l v

-- each vertex is the front of at most two uses
abbrev pub AtMostTwo : LentSplit → Type 0
AtMostTwo l = (v : ℕ) → v < l.vertices → fronts_at l v ≤ 2

-- an edge that the split adds
abbrev pub is_new : LentSplit → ℕ → Bool
is_new l e = is_new_edge l.edges (pairs l) e

-- "places in the wires to be rebuilt + 1 if the edge is new"
abbrev pub counted : LentSplit → ℕ → ℕ
counted l u = count (eqb u) (take (rebuilt_total l) l.rebuilt_uses) + pick (is_new l (edge_of_use u)) 1 0

-- the answered wires: as many as are told, off the buffers
abbrev pub answered : Boundaries → Buffers → List (List ℕ)
answered c b = wires_of b.us (take c.wires b.ls)

-- The answered wires keep the uses, by what a success tells and its buffers hold:
pub record Kept (l : LentSplit) (c : Boundaries) (b : Buffers) : Type 0 where
  -- each directed use stands in the answered wires exactly as often as it was counted
  pub each : (u : ℕ) → count (eqb u) (uses_of (answered c b)) ≡ counted l u
  -- and these are the uses told
  pub all : uses_of (answered c b) ≡ take c.uses b.us
  -- and each wire is closed, and of its backs the last, and no other, is its first front
  pub wire : (i : ℕ) → i < c.wires → Wire (front_in l) (back_in l) (get_or (answered c b) i [])

-- For every split that passes the checks made before the walk, in whatever order the uses come and whichever edges are marked:
pub record KeepsUses (l : LentSplit) (o : SplitOutcome) : Type 0 where
  -- if each vertex is the front of as many uses as it is the back of, and the front of at most two, the split succeeds
  pub succeeds : split_cause l ≡ 0 → Balanced l → AtMostTwo l → (c : Boundaries) × (o.said ≡ result c)
  -- if at any vertex the two numbers are unequal, it is refused with 11, a dead end, or with 12, a crowd
  pub refuses : split_cause l ≡ 0 → (v : ℕ) → fronts_at l v ≢ backs_at l v → (o.said ≡ refused 11) ⊎ (o.said ≡ refused 12)
  -- every success keeps the uses
  pub kept : (c : Boundaries) → o.said ≡ result c → Kept l c o.buffers
  -- where every vertex is balanced no dead end is met, whatever the degree
  pub no_dead_end : split_cause l ≡ 0 → Balanced l → o.said ≢ refused 11
