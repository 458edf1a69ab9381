-- The front, the back and the mark of a use, off the lent tables, and what the caller has checked of them. Definitions only.
use Rattle.std.specs.Prelude.{ℕ, ◌+◌, ◌-◌, ◌*◌, ◌/◌, ◌%◌, ◌≤◌, ◌<◌, Bool, true, false, List, length, get_or, ltb}
use Rattle.walk.specs.declared.lists.AllEdges.{AllEdges}
use Rattle.compress.specs.Rows.{numbers_per_edge}

-- End j of edge e, 0 its first vertex number and 1 its second. "Fronts and backs are those of the lent edges and of the pairs": a lent edge is a
-- row of numbers, whose first two are the ends; from number `edges` on, an edge is a pair of vertices of the divisor.
abbrev pub end_in : Bool → List ℕ → List ℕ → ℕ → ℕ → ℕ → ℕ
end_in true en ds edges e j = get_or en (e * numbers_per_edge + j) 0
end_in false en ds edges e j = get_or ds ((e - edges) * 2 + j) 0

unfoldable pub end_of : List ℕ → List ℕ → ℕ → ℕ → ℕ → ℕ
end_of en ds edges e j = end_in (ltb e edges) en ds edges e j

-- "Its front is the first vertex number when forward, the second when reversed; its back is the other." Use 2e is edge e forward, 2e + 1 reversed.
abbrev pub front_of : List ℕ → List ℕ → ℕ → ℕ → ℕ
front_of en ds edges u = end_of en ds edges (u / 2) (u % 2)

abbrev pub back_of : List ℕ → List ℕ → ℕ → ℕ → ℕ
back_of en ds edges u = end_of en ds edges (u / 2) (1 - u % 2)

-- An edge is marked where its entry is 2 or more: "edge numbers that occur twice or more in the face's wires, and the new edges".
abbrev pub marked_of : List ℕ → ℕ → Bool
marked_of ms u = ltb 1 (get_or ms (u / 2) 0)

-- Edge e is there: a row, or a pair.
pub record HasEnds (en ds : List ℕ) (edges e : ℕ) : Type 0 where
  pub row : e < edges → e * numbers_per_edge + numbers_per_edge ≤ length en
  pub pair : edges ≤ e → (e - edges) * 2 + 2 ≤ length ds

-- What the caller has checked: few uses, of edges that are there and have a mark, between vertices that are there.
pub record Sound (en ds : List ℕ) (edges : ℕ) (ms us : List ℕ) : Type 0 where
  pub few : length us ≤ 1024
  pub there : (i : ℕ) → i < length us → HasEnds en ds edges (get_or us i 0 / 2)
  pub small : (i j : ℕ) → i < length us → j < 2 → end_of en ds edges (get_or us i 0 / 2) j < 4096
  pub marks : (i : ℕ) → i < length us → get_or us i 0 / 2 < length ms

-- ---- said of the struct
abbrev pub front_in : AllEdges → ℕ → ℕ
front_in e = front_of e.lent.numbers.now e.divisor.now e.lent.count

abbrev pub back_in : AllEdges → ℕ → ℕ
back_in e = back_of e.lent.numbers.now e.divisor.now e.lent.count

abbrev pub EndsIn : AllEdges → ℕ → Type 0
EndsIn all e = HasEnds all.lent.numbers.now all.divisor.now all.lent.count e

abbrev pub SoundIn : AllEdges → List ℕ → List ℕ → Type 0
SoundIn e ms us = Sound e.lent.numbers.now e.divisor.now e.lent.count ms us

-- how many pairs the divisor has: "an odd last one makes no edge"
abbrev pub pairs_in : AllEdges → ℕ
pairs_in e = length e.divisor.now / 2
