-- What the walk of a split asks of the lent slices, and what it answers off them. Definitions only.
use Rattle.std.specs.Prelude.{◌≡◌, List, ◌++◌, ℕ, ◌+◌, ◌*◌, ◌/◌, ◌≤◌, ◌<◌, length, get_or}
use Rattle.walk.specs.declared.lists.AllEdges.{AllEdges}
use Rattle.walk.specs.lists.Ends.{front_of, back_of, pairs_in}
use Rattle.walk.specs.Walk.{Answer}
use Rattle.walk.specs.Walk as walk
use Rattle.walk.specs.marks.Marks.{new_uses, marked_by}
use Rattle.compress.specs.Rows.{numbers_per_edge}

-- `edges` rows in en, the uses of the face's wires and of those to be rebuilt, and `pairs` pairs of vertices in ds: few enough, and every number known
pub record Walkable (en : List ℕ) (edges : ℕ) (face rebuilt ds : List ℕ) (pairs : ℕ) : Type 0 where
  pub few : length rebuilt + pairs * 2 ≤ 1024
  pub face_few : length face ≤ 1024
  pub below : edges + pairs ≤ 4096
  pub rows : edges * numbers_per_edge ≤ length en
  pub paired : length ds ≡ pairs * 2
  pub face_known : (k : ℕ) → k < length face → get_or face k 0 / 2 < edges
  pub rebuilt_known : (k : ℕ) → k < length rebuilt → get_or rebuilt k 0 / 2 < edges
  pub ends : (e j : ℕ) → e < edges → j < 2 → get_or en (e * numbers_per_edge + j) 0 < 4096
  pub stops : (k : ℕ) → k < pairs * 2 → get_or ds k 0 < 4096

-- the walk, with fronts and backs off the lent slices
unfoldable pub lent_walk : List ℕ → ℕ → List ℕ → List ℕ → List ℕ → ℕ → Answer
lent_walk en edges face rebuilt ds pairs = walk.walk (front_of en ds edges) (back_of en ds edges) (marked_by face edges pairs) (rebuilt ++ new_uses edges pairs)

-- ---- said of the struct, with a pair of the divisor for each new edge
abbrev pub WalkableIn : AllEdges → List ℕ → List ℕ → Type 0
WalkableIn e face rebuilt = Walkable e.lent.numbers.now e.lent.count face rebuilt e.divisor.now (pairs_in e)

abbrev pub walk_all : AllEdges → List ℕ → List ℕ → Answer
walk_all e face rebuilt = lent_walk e.lent.numbers.now e.lent.count face rebuilt e.divisor.now (pairs_in e)
