-- The search of document 01's "Non-simple wire" for an edge number that stands twice in a wire: the Rust's `find_loop`. Definitions only.
use Rattle.std.specs.Prelude.{List, [], ◌∷◌, ℕ, ◌+◌, Option, Some, None, eqb, get_or, set, drop}
use Rattle.compress.specs.Records.{pick, edge_of_use}
use Rattle.non_simple.specs.declared.loops.Pair.{Pair}

-- The Rust's map takes an edge number to the latest place where it stood. "with nothing remembered"
unfoldable pub nothing : ℕ → Option ℕ
nothing e = None

-- the Rust's `insert`: the map once the edge number e stood at place i
unfoldable pub insert : (ℕ → Option ℕ) → ℕ → ℕ → ℕ → Option ℕ
insert map e i other = pick (eqb other e) (Some i) (map other)

-- the earlier place j and the later place i
abbrev pub pair : ℕ → ℕ → Option Pair
pair j i = Some (record { earlier = j; later = i })

-- the search at place i, by where its edge number stood, with what the search past i finds
abbrev pub meet : Option ℕ → ℕ → Option Pair → Option Pair
meet None i later = later
meet (Some j) i later = pair j i

-- "find the first position whose edge number stood before": the search over the uses from place i on
unfoldable pub searched : (ℕ → Option ℕ) → ℕ → List ℕ → Option Pair
searched map i [] = None
searched map i (u ∷ us) = meet (map (edge_of_use u)) i (searched (insert map (edge_of_use u) i) (i + 1) us)

-- "From .. on, with nothing remembered, find the next such pair"
unfoldable pub first_repeat : ℕ → List ℕ → Option Pair
first_repeat from wire = searched nothing from (drop from wire)

-- ---- the table that is lent: entry e is for the latest place of edge e

-- "with nothing remembered": the entries of the edges of these uses are empty
unfoldable pub forgotten : List ℕ → List (Option ℕ) → List (Option ℕ)
forgotten [] table = table
forgotten (u ∷ us) table = forgotten us (set table (edge_of_use u) None)

-- the table once the edge number of a use met what its entry held: where it held nothing, the search went on
abbrev pub kept : Option ℕ → List (Option ℕ) → List (Option ℕ) → List (Option ℕ)
kept None later here = later
kept (Some j) later here = here

-- the table once the uses from place i on were searched, up to the first whose edge number stood before
unfoldable pub remembered : ℕ → List ℕ → List (Option ℕ) → List (Option ℕ)
remembered i [] table = table
remembered i (u ∷ us) table =
    let here = set table (edge_of_use u) (Some i) in
    kept (get_or table (edge_of_use u) None) (remembered (i + 1) us here) here

-- what the search leaves of it
unfoldable pub table_after : ℕ → List ℕ → List (Option ℕ) → List (Option ℕ)
table_after from wire table = remembered from (drop from wire) (forgotten (drop from wire) table)
