-- Document 01's worked examples of the walk, computed over the table and over the list of all uses left. Assumes nothing.
use Rattle.std.specs.Prelude.{ℕ, zero, suc, ◌+◌, ◌/◌, ◌%◌, ◌≡◌, refl, Bool, false, ◌||◌, List, [], ◌∷◌, get_or, eqb}
use Rattle.walk.specs.Walk.{Answer, wires, refused, refuse, run, walk}
use Rattle.walk.specs.Table.{present, arrive, steps, opened, table_walk}

-- ---- edges as pairs of vertices, uses and marks

-- "a use is one number: twice the edge number, plus 1 when reversed"
-- "Its front is the first vertex number when forward, the second when reversed; its back is the other."
abbrev pub end : ℕ → (ℕ × ℕ) → ℕ
end zero e = e.0
end (suc n) e = e.1

abbrev pub front_in : List (ℕ × ℕ) → ℕ → ℕ
front_in es u = end (u % 2) (get_or es (u / 2) (0, 0))

abbrev pub back_in : List (ℕ × ℕ) → ℕ → ℕ
back_in es u = end ((u + 1) % 2) (get_or es (u / 2) (0, 0))

-- the test whether a use's edge is one of the marked ones
abbrev pub among : List ℕ → ℕ → Bool
among [] e = false
among (x ∷ l) e = eqb x e || among l e

abbrev pub marked_in : List ℕ → ℕ → Bool
marked_in ms u = among ms (u / 2)

-- Over n vertices, the edges es, the marked edges ms and the uses us, both walks answer a.
abbrev pub Answers : ℕ → List (ℕ × ℕ) → List ℕ → List ℕ → Answer → Type 0
Answers n es ms us a =
    (table_walk n (front_in es) (back_in es) (marked_in ms) us ≡ a) × (walk (front_in es) (back_in es) (marked_in ms) us ≡ a)

-- ---- the examples

-- K10, with edge 5 = (3, 1) appended and edges 0 and 5 marked; the uses are 1+ 2+ 0+ 3+ 4+ 0- 5+ 5-. "wires 0+ 3+ 5+ 2+ and 1+ 5- 4+ 0-"
pub k10 : Answers 4 ((0, 2) ∷ (0, 1) ∷ (1, 0) ∷ (2, 3) ∷ (3, 2) ∷ (3, 1) ∷ []) (0 ∷ 5 ∷ []) (2 ∷ 4 ∷ 0 ∷ 6 ∷ 8 ∷ 1 ∷ 10 ∷ 11 ∷ [])
    (wires ((0 ∷ 6 ∷ 10 ∷ 4 ∷ []) ∷ (2 ∷ 11 ∷ 8 ∷ 1 ∷ []) ∷ []))
unfolding steps opened table_walk run walk
k10 = (refl, refl)

-- "K11: edge 0 = (0, 1), use 0+ alone: 11."
pub k11 : Answers 2 ((0, 1) ∷ []) [] (0 ∷ []) (refused 11)
unfolding steps opened table_walk run walk
k11 = (refl, refl)

-- "K12: edges 0 to 2 are (0, 1), 3 to 5 are (1, 0), each used forward: 12."
pub k12 : Answers 2 ((0, 1) ∷ (0, 1) ∷ (0, 1) ∷ (1, 0) ∷ (1, 0) ∷ (1, 0) ∷ []) [] (0 ∷ 2 ∷ 4 ∷ 6 ∷ 8 ∷ 10 ∷ []) (refused 12)
unfolding steps opened table_walk run walk
k12 = (refl, refl)

-- "K13: edges 0 to 2 all (0, 0), each used forward: wires 2+, 1+, 0+."
pub k13 : Answers 1 ((0, 0) ∷ (0, 0) ∷ (0, 0) ∷ []) [] (0 ∷ 2 ∷ 4 ∷ []) (wires ((4 ∷ []) ∷ (2 ∷ []) ∷ (0 ∷ []) ∷ []))
unfolding steps opened table_walk run walk
k13 = (refl, refl)

-- "No uses and an empty list: no wires."
pub no_uses : Answers 3 [] [] [] (wires [])
unfolding steps opened table_walk run walk
no_uses = (refl, refl)

-- "an empty one is 13", whatever is marked
pub empty_list : (marked : ℕ → Bool) (m : Bool) → arrive marked m (present []) ≡ refuse 13
empty_list marked m = refl

-- ---- corners that those leave open

-- Of two uses, with the current and the first one marked, the second is taken.
pub both_marked : Answers 2 ((0, 1) ∷ (1, 0) ∷ (1, 1) ∷ []) (0 ∷ 1 ∷ []) (0 ∷ 2 ∷ 4 ∷ []) (wires ((0 ∷ 4 ∷ 2 ∷ []) ∷ []))
unfolding steps opened table_walk run walk
both_marked = (refl, refl)

-- With the first marked and the current not, the first is taken.
pub first_marked : Answers 2 ((0, 1) ∷ (1, 0) ∷ (1, 1) ∷ []) (1 ∷ []) (0 ∷ 2 ∷ 4 ∷ []) (wires ((0 ∷ 2 ∷ []) ∷ (4 ∷ []) ∷ []))
unfolding steps opened table_walk run walk
first_marked = (refl, refl)

-- The smallest vertex is the start, not that of the first use.
pub smallest_start : Answers 2 ((1, 1) ∷ (0, 0) ∷ []) [] (0 ∷ 2 ∷ []) (wires ((2 ∷ []) ∷ (0 ∷ []) ∷ []))
unfolding steps opened table_walk run walk
smallest_start = (refl, refl)
