-- The walk arrives at a vertex: what the step is, and what it leaves in the tables. Definitions only.
use Rattle.std.specs.Prelude.{ℕ, ◌+◌, ◌≡◌, Bool, true, false, List, get_or, set, Result, Ok, Err}
use Rattle.compress.specs.declared.Refusal.{Refusal}
use Rattle.compress.specs.declared.Refusal.TheVariants.{DeadEnd, TooManyUses, EmptyList}
use Rattle.walk.specs.Walk.{exactly_one}

-- The walk arrives at the vertex v with the use u: what the step is, and what it leaves in the tables; where it takes no use, they stay.
pub data Went (marked : ℕ → Bool) (us hd nx : List ℕ) (v u : ℕ) (s : Result ℕ Refusal) (hd' nx' : List ℕ) : Type 0 where
  absent : get_or hd v 0 ≡ 0 → s ≡ Err DeadEnd → hd' ≡ hd → nx' ≡ nx → Went marked us hd nx v u s hd' nx'
  empty : get_or hd v 0 ≡ 1 → s ≡ Err EmptyList → hd' ≡ hd → nx' ≡ nx → Went marked us hd nx v u s hd' nx'
  many : (p a b : ℕ) → get_or hd v 0 ≡ p + 2 → get_or nx p 0 ≡ a + 1 → get_or nx a 0 ≡ b + 1 → s ≡ Err TooManyUses → hd' ≡ hd → nx' ≡ nx → Went marked us hd nx v u s hd' nx'
  one : (p : ℕ) → get_or hd v 0 ≡ p + 2 → get_or nx p 0 ≡ 0
      → s ≡ Ok (get_or us p 0) → hd' ≡ set hd v 0 → nx' ≡ nx → Went marked us hd nx v u s hd' nx'
  second : (p a : ℕ) → get_or hd v 0 ≡ p + 2 → get_or nx p 0 ≡ a + 1 → get_or nx a 0 ≡ 0 → exactly_one (marked u) (marked (get_or us a 0)) ≡ false
      → s ≡ Ok (get_or us p 0) → hd' ≡ set hd v (get_or nx p 0 + 1) → nx' ≡ nx → Went marked us hd nx v u s hd' nx'
  first : (p a : ℕ) → get_or hd v 0 ≡ p + 2 → get_or nx p 0 ≡ a + 1 → get_or nx a 0 ≡ 0 → exactly_one (marked u) (marked (get_or us a 0)) ≡ true
      → s ≡ Ok (get_or us a 0) → hd' ≡ hd → nx' ≡ set nx p 0 → Went marked us hd nx v u s hd' nx'
