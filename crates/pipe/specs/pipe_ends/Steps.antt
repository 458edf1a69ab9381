-- What the calls of the steps answer, of a shell. Definitions only.
use Rattle.std.specs.Prelude.{◌≡◌, List, [], ◌∷◌, ℕ, drop, get_or}
use Rattle.compress.specs.Said.{Said, result}
use Rattle.correction.specs.Correction.{nearest_correction}
use Rattle.correction.specs.declared.nearest.Ends.{Ends}
use Rattle.non_simple.specs.Search.{find_non_simple}
use Rattle.pipe_shell.specs.declared.Shell.{Shell}
use Rattle.pipe_shell.specs.Projected.{ends_of_rims}
use Rattle.wire_kinds.specs.Kinds.{unsorted, sort_wires}

-- the sorting of the wires answers that the two rims, 0 and 1, are open
abbrev pub RimsOpen : Shell → Type 0
RimsOpen s = (n : ℕ) × (closed : List ℕ)
    × (sort_wires ends_of_rims s.wires.count (0 ∷ 0 ∷ []) (0 ∷ 0 ∷ []) ≡ unsorted (result n) (0 ∷ 1 ∷ []) closed)

-- the nearest ends of the first two wires, from vertex 0 on
abbrev pub ends_said : Shell → Said Ends
ends_said s =
    let n = get_or s.wires.lengths 0 0 in
    let m = get_or s.wires.lengths 1 0 in
    nearest_correction
    (record {
      vn = s.vertices.numbers;
      vf = s.vertices.floats;
      en = s.edges.numbers;
      ef = s.edges.floats;
      first = s.wires.uses;
      second = drop n s.wires.uses;
      vertices = s.vertices.count;
      edges = s.edges.count;
      first_count = n;
      second_count = m;
      v0 = 0;
    })

-- the search for a wire that uses an edge twice
abbrev pub divisor_said : Shell → Said Ends
divisor_said s =
    find_non_simple
    (record {
      slices = record {
        vn = s.vertices.numbers;
        vf = s.vertices.floats;
        en = s.edges.numbers;
        ef = s.edges.floats;
        us = s.wires.uses;
        ls = s.wires.lengths;
      };
      vertices = s.vertices.count;
      edges = s.edges.count;
      wires = s.wires.count;
    })

-- these two vertices are the result of a call
abbrev pub Answered : Said Ends → Ends → Type 0
Answered said ends = said ≡ result ends
