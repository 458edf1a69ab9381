-- What the walk answers, by document 01's numbers, and what it leaves in its two tables and in the lent buffers. Definitions only.
use Rattle.std.specs.Prelude.{ℕ, ◌≤◌, ◌≡◌, List, map, length, take, Result, Ok, Err}
use Rattle.compress.specs.declared.Refusal.{Refusal}
use Rattle.compress.specs.Refusals.{refusal_number}
use Rattle.compress.specs.Said.{Said, result, said_of}
use Rattle.compress.specs.Said as said
use Rattle.compress.specs.Wires.{total, uses_of, lengths_of, over}
use Rattle.walk.specs.declared.lists.AllEdges.{AllEdges}
use Rattle.walk.specs.lists.Ends.{front_of, back_of, marked_of}
use Rattle.walk.specs.Walk.{Answer, wires, refused, walk}
use Rattle.walk.specs.declared.Walked.{Walked}

-- The walk of the uses us, off the lent tables.
abbrev pub walk_over : List ℕ → List ℕ → ℕ → List ℕ → List ℕ → Answer
walk_over en ds edges ms us = walk (front_of en ds edges) (back_of en ds edges) (marked_of ms) us

-- the same, said of the struct
abbrev pub walk_in : AllEdges → List ℕ → List ℕ → Answer
walk_in e ms us = walk_over e.lent.numbers.now e.divisor.now e.lent.count ms us

-- What the walk leaves where it succeeds: the uses of its wires, wire after wire, in the front of made, and the wires' lengths in the front of sizes.
pub record Made (a : Answer) (made sizes : List ℕ) (n t : ℕ) : Type 0 where
  pub ws : List (List ℕ)
  pub is : a ≡ wires ws
  pub count : length ws ≡ n
  pub joined : uses_of ws ≡ take t made
  pub sized : map length ws ≡ take n sizes
  pub summed : total (take n sizes) ≡ t
  pub few : n ≤ t
  pub long_made : length made ≡ 1024
  pub long_sizes : length sizes ≡ 1024

-- The walk answers a, of k uses. On a refusal nothing is said of the two tables.
unfoldable pub Traced : Answer → ℕ → List ℕ → List ℕ → Result Walked Refusal → Type 0
Traced a k made sizes (Ok w) = Made a made sizes w.wires w.uses × (w.uses ≡ k)
Traced a k made sizes (Err r) = a ≡ refused (refusal_number r)

-- ---- the lent buffers

-- what a walk leaves: its answer, and the contents of the buffers for uses and wire lengths
pub record WalkOutcome : Type 0 where
  pub said : Said Walked
  pub us : List ℕ
  pub ls : List ℕ

abbrev pub leaves_walk : Result Walked Refusal → List ℕ → List ℕ → WalkOutcome
leaves_walk r us ls = record { said = said_of (λ w. w) r; us = us; ls = ls }

-- The wires and their lengths stand in the fronts of the buffers; "entries past a result keep what they held". On 11, 12 and 13 nothing is written.
abbrev pub walk_outcome : Answer → List ℕ → List ℕ → WalkOutcome
walk_outcome (wires ws) us ls =
    record { said = result (record { wires = length ws; uses = length (uses_of ws) }); us = over (uses_of ws) us; ls = over (lengths_of ws) ls }
walk_outcome (refused c) us ls = record { said = said.refused c; us = us; ls = ls }
