-- The lists of the vertices, in two tables. Definitions only.
-- Entry v of head is 0 where vertex v is absent, 1 where it is present and its list is empty, and p + 2 where the last use of its list is the one
-- at place p. Entry p of next is 0 where the use at place p is the first of its list, and q + 1 where the one at place q stands before it.
use Rattle.std.specs.Prelude.{ℕ, zero, suc, ◌+◌, ◌-◌, ◌≤◌, ◌<◌, ◌≡◌, ◌≢◌, Option, Some, None, List, [], ◌∷◌, ◌++◌, length, get_or, set}
use Rattle.walk.specs.lists.Members.{at}

-- What an entry of next says: no place, or the one that stands before.
abbrev pub place_of : ℕ → Option ℕ
place_of zero = None
place_of (suc q) = Some q

-- What an entry of head says: no list; or a list, with the place of its last use, if it has a use.
abbrev pub list_of : ℕ → Option (Option ℕ)
list_of zero = None
list_of (suc m) = Some (place_of m)

-- From h the chain of v goes through places below n, and the uses there, from the last to the first, are l.
pub data Chain (front : ℕ → ℕ) (us nx : List ℕ) (n v : ℕ) : ℕ → List ℕ → Type 0 where
  none : {h : ℕ} {l : List ℕ} → h ≡ 0 → l ≡ [] → Chain front us nx n v h l
  some : {h : ℕ} {l : List ℕ} (p : ℕ) (m : List ℕ) → h ≡ p + 1 → p < n → front (get_or us p 0) ≡ v → Chain front us nx n v (get_or nx p 0) m
      → l ≡ m ++ (get_or us p 0 ∷ []) → Chain front us nx n v h l

-- The head of a list by the place of its last use. "An emptied list is dropped."
abbrev pub head_at : Option ℕ → ℕ
head_at None = 0
head_at (Some p) = p + 2

-- The head of a list that goes on at m. "An emptied list is dropped."
abbrev pub entry_of : ℕ → ℕ
entry_of zero = 0
entry_of (suc m) = suc m + 1

-- The tables after the first i uses, in order, went to the end of the list of their front: the use at place i becomes its last, and what was
-- the last stands before it.
abbrev pub heads_after : (ℕ → ℕ) → List ℕ → List ℕ → ℕ → List ℕ
heads_after front us hd zero = hd
heads_after front us hd (suc i) = set (heads_after front us hd i) (front (get_or us i 0)) (i + 2)

abbrev pub nexts_after : (ℕ → ℕ) → List ℕ → List ℕ → List ℕ → ℕ → List ℕ
nexts_after front us hd nx zero = nx
nexts_after front us hd nx (suc i) = set (nexts_after front us hd nx i) i (get_or (heads_after front us hd i) (front (get_or us i 0)) 0 - 1)

-- The tables name no place from n on.
pub record Tables (n : ℕ) (hd nx : List ℕ) : Type 0 where
  pub heads : (v : ℕ) → get_or hd v 0 ≤ n + 1
  pub nexts : (p : ℕ) → get_or nx p 0 ≤ n

-- The tables hold, for every vertex, its list among the uses that are left, and no vertex with an empty one.
pub record Lists (front : ℕ → ℕ) (us : List ℕ) (n : ℕ) (hd nx rest : List ℕ) : Type 0 where
  pub long_heads : length hd ≡ 4096
  pub long_nexts : length nx ≡ 1024
  pub tables : Tables n hd nx
  pub chains : (v : ℕ) → Chain front us nx n v (get_or hd v 0 - 1) (at front v rest)
  pub dropped : (v : ℕ) → get_or hd v 0 ≢ 1

-- r is the smallest vertex that has uses, and 4096 where there is none.
pub record Lowest (hd : List ℕ) (r : ℕ) : Type 0 where
  pub within : r ≤ 4096
  pub below : (w : ℕ) → w < r → get_or hd w 0 ≤ 1
  pub has : r < 4096 → 1 < get_or hd r 0
