-- Split (`split_boundaries_by_divisor`, from `duplicated_edges` on), on records and wires. Definitions only.
use Rattle.std.specs.Prelude.{Bool, List, ◌++◌, ℕ, length, get_or}
use Rattle.std.specs.Float.{nan}
use Rattle.compress.specs.declared.Curve.TheVariants.{Span}
use Rattle.compress.specs.declared.Preparation.TheVariants.{Square}
use Rattle.compress.specs.declared.Edge.{Edge}
use Rattle.compress.specs.Records.{front_at, back_at}
use Rattle.walk.specs.Walk.{Answer}
use Rattle.walk.specs.Table.{table_walk}
use Rattle.split.specs.declared.seams.Stop.{Stop}
use Rattle.split.specs.seams.Seams.{seams_of}
use Rattle.walk.specs.marks.Marks.{new_uses, marked_by}

-- what a split is given: how many vertices there are, the edges, the uses of the face's wires and of the wires to be rebuilt, the vertices on
-- the divisor, and the surface number
pub record Given : Type 0 where
  pub vertices : ℕ
  pub edges : List Edge
  pub face : List ℕ
  pub rebuilt : List ℕ
  pub stops : List Stop
  pub surface : ℕ

abbrev pub seams : Given → List Edge
seams g = seams_of g.surface g.stops

-- "Fronts and backs are those of the lent edges and of the pairs."
abbrev pub edges_after : Given → List Edge
edges_after g = g.edges ++ seams g

-- what stands for an edge that is not there, which no use has
abbrev pub no_edge : Edge
no_edge = record { front = 0; back = 0; curve = Span 0 nan nan; preparation = Square }

abbrev pub edge_after : Given → ℕ → Edge
edge_after g i = get_or (edges_after g) i no_edge

abbrev pub front_after : Given → ℕ → ℕ
front_after g = front_at (edge_after g)

abbrev pub back_after : Given → ℕ → ℕ
back_after g = back_at (edge_after g)

-- "those of the wires to be rebuilt in order, then each new edge forward and reversed"
abbrev pub uses_to_walk : Given → List ℕ
uses_to_walk g = g.rebuilt ++ new_uses (length g.edges) (length (seams g))

abbrev pub marked_in : Given → ℕ → Bool
marked_in g = marked_by g.face (length g.edges) (length (seams g))

-- the walk over the table of lists
unfoldable pub split_wires : Given → Answer
split_wires g = table_walk g.vertices (front_after g) (back_after g) (marked_in g) (uses_to_walk g)
