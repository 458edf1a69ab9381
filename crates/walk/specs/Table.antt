-- The walk of a split as document 01 says it, over a table that holds the list of each vertex. Definitions only.
-- It is the source's `create_vemap` and `construct_boundaries`, with the number of a refusal where the source panics.
use Rattle.std.specs.Prelude.{ℕ, zero, suc, ◌-◌, Bool, true, false, List, [], ◌∷◌, ◌++◌, length, get_or, eqb}
use Rattle.compress.specs.Records.{pick}
use Rattle.walk.specs.lists.Members.{without}
use Rattle.walk.specs.Walk.{Answer, wires, refused, Move, finish, refuse, fresh, along, side}

-- ---- the table

-- A vertex has no list, or it has one. The type allows an empty one, which is what refusal 13 is for.
pub data Entry : Type 0 where
  absent : Entry
  present : List ℕ → Entry

-- the uses in an entry, and whether there are any
abbrev pub entry_uses : Entry → List ℕ
entry_uses absent = []
entry_uses (present l) = l

abbrev pub has_uses : Entry → Bool
has_uses absent = false
has_uses (present []) = false
has_uses (present (x ∷ l)) = true

-- "An emptied list is dropped."
abbrev pub kept : List ℕ → Entry
kept [] = absent
kept (x ∷ l) = present (x ∷ l)

-- A table gives each vertex its entry.
abbrev pub Table : Type 0
Table = ℕ → Entry

-- the table with another entry at v
abbrev pub update : Table → ℕ → Entry → Table
update t v e w = pick (eqb w v) e (t w)

-- "Uses go to their front vertex's list: .. in order": to its end, and the first of them makes the list.
abbrev pub pushed : Entry → ℕ → Entry
pushed absent u = present (u ∷ [])
pushed (present l) u = present (l ++ (u ∷ []))

abbrev pub filled : (ℕ → ℕ) → Table → List ℕ → Table
filled front t [] = t
filled front t (u ∷ us) = filled front (update t (front u) (pushed (t (front u)) u)) us

-- A vertex without uses has no list.
abbrev pub table_of : (ℕ → ℕ) → List ℕ → Table
table_of front us = filled front (λ _. absent) us

-- the table from which the use at index i of v's list is taken
abbrev pub taken : Table → ℕ → ℕ → Table
taken t v i = update t v (kept (without (entry_uses (t v)) i))

-- ---- what comes next

-- Where a wire starts: at no vertex, or at one.
pub data Start : Type 0 where
  nowhere : Start
  vertex : ℕ → Start

-- "take the smallest vertex that has uses as start": of k vertices from v on, and of all n
abbrev pub first_from : Table → ℕ → ℕ → Start
first_from t v zero = nowhere
first_from t v (suc k) = pick (has_uses (t v)) (vertex v) (first_from t (suc v) k)

abbrev pub smallest : ℕ → Table → Start
smallest n t = first_from t 0 n

-- "the walk begins again with what is left; it succeeds when no vertex has uses"
abbrev pub again : Start → Move
again nowhere = finish
again (vertex v) = fresh v

-- "if the back's list has one use, take it; if two, take the first where exactly one of current use and first use is marked, else the second."
-- "A list missing on arrival is a dead end (11), one of three or more is a crowd (12), an empty one is 13". m says whether the current use is marked.
abbrev pub arrive : (ℕ → Bool) → Bool → Entry → Move
arrive marked m absent = refuse 11
arrive marked m (present []) = refuse 13
arrive marked m (present (x ∷ [])) = along 0
arrive marked m (present (x ∷ y ∷ [])) = along (side m (marked x))
arrive marked m (present (x ∷ y ∷ z ∷ l)) = refuse 12

-- ---- the walk

-- Where the walk stands: the vertex at which the present wire starts, the current use, the table of the uses that are left,
-- the present wire with the current use at its end, and the wires that are done.
pub record Stand : Type 0 where
  pub start : ℕ
  pub last : ℕ
  pub table : Table
  pub wire : List ℕ
  pub done : List (List ℕ)

-- "A wire back at its start is done"
abbrev pub ended : Stand → List (List ℕ)
ended p = p.done ++ (p.wire ∷ [])

-- "take the smallest vertex that has uses as start, and its last use", however many it has
abbrev pub starts : ℕ → Table → List (List ℕ) → Stand
starts v t ws =
    let i = length (entry_uses (t v)) - 1 in
    let u = get_or (entry_uses (t v)) i 0 in
    record { start = v; last = u; table = taken t v i; wire = u ∷ []; done = ws }

-- n vertices, the front and the back of a use, and whether its edge is marked
module _ (n : ℕ) (front back : ℕ → ℕ) (marked : ℕ → Bool) where
  -- the use at index i of the back's list is taken
  abbrev pub follows : ℕ → Stand → Stand
  follows i p =
      let v = back p.last in
      let u = get_or (entry_uses (p.table v)) i 0 in
      record { start = p.start; last = u; table = taken p.table v i; wire = p.wire ++ (u ∷ []); done = p.done }

  -- "until the back is the start"
  abbrev pub next : Stand → Move
  next p = pick (eqb (back p.last) p.start) (again (smallest n p.table)) (arrive marked (marked p.last) (p.table (back p.last)))

  -- At most k moves, of which m is the first. A refusal is the one first reached.
  unfoldable pub steps : ℕ → Move → Stand → Answer
  steps zero m p = refused 0
  steps (suc k) finish p = wires (ended p)
  steps (suc k) (refuse c) p = refused c
  steps (suc k) (fresh v) p = let q = starts v p.table (ended p) in steps k (next q) q
  steps (suc k) (along i) p = let q = follows i p in steps k (next q) q

  -- the first start, with no wire done
  unfoldable pub opened : ℕ → Start → Table → Answer
  opened k nowhere t = wires []
  opened k (vertex v) t = let q = starts v t [] in steps k (next q) q

  -- The first use is taken at once, and each move but the last takes one more, so there are at most as many moves as uses.
  unfoldable pub table_walk : List ℕ → Answer
  table_walk us = opened (length us) (smallest n (table_of front us)) (table_of front us)
