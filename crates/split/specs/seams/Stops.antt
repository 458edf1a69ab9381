-- The causes that lie in the vertices on the divisor. Definitions only.
use Rattle.std.specs.Prelude.{List, [], ℕ, ◌*◌, ◌%◌, eqb, ltb, Float, length, take}
use Rattle.compress.specs.Records.{pick}
use Rattle.checks.specs.Causes.{when, lower_of, lowest_of, vertex_number_cause, uv_cause}
use Rattle.split.specs.seams.Seams.{floats_per_stop, stop_at, repeats_after}

-- the vertices on the divisor: a count above what was lent (1), every vertex number (2), every uv point (4)
unfoldable pub stop_cause : ℕ → List ℕ → List Float → ℕ → ℕ
stop_cause vertices ds fs i = lower_of (vertex_number_cause vertices (stop_at ds fs i).vertex) (uv_cause (stop_at ds fs i).point)

unfoldable pub stops_cause : ℕ → List ℕ → List Float → ℕ → ℕ
stops_cause vertices ds fs n =
    pick (ltb (length ds) n) 1 (pick (ltb (length fs) (n * floats_per_stop)) 1 (lowest_of (stop_cause vertices ds fs) n))

-- 9: "Odd count on the divisor"
abbrev pub odd_cause : ℕ → ℕ
odd_cause n = when (eqb (n % 2) 1) 9

-- 10: "A vertex twice on the divisor"
abbrev pub repeat_cause : List ℕ → ℕ → ℕ
repeat_cause ds n = when (repeats_after [] (take n ds)) 10
