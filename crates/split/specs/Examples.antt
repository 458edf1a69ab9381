-- Worked examples of the split. Assumes nothing.
use Rattle.std.specs.Prelude.{◌≡◌, refl, List, [], ◌∷◌, ℕ, Float}
use Rattle.compress.specs.Constants.{zero64, one64, two64, four64}
use Rattle.compress.specs.declared.Curve.TheVariants.{Seam}
use Rattle.compress.specs.declared.Preparation.TheVariants.{Square}
use Rattle.compress.specs.declared.Edge.{Edge}
use Rattle.compress.specs.Worked.{between, k9_edges, k9_wire}
use Rattle.compress.specs.Records.{front_of, back_of, front_at, back_at}
use Rattle.walk.specs.Walk.{Answer, wires, refused}
use Rattle.walk.specs.Table.{steps, opened, table_walk}
use Rattle.split.specs.declared.seams.Stop.{Stop}
use Rattle.split.specs.seams.Seams.{seam_of, seams_of}
use Rattle.walk.specs.marks.Marks.{new_uses, occurs, marked_by}
use Rattle.split.specs.Split.{Given, edges_after, split_wires}

-- ---- numbers and records of the cases

abbrev pub stop : ℕ → Float → Float → Stop
stop n a b = record { vertex = n; point = record { u = a; v = b } }

-- a split of vertices and edges with the same wire as the face's and to be rebuilt, on surface 7
abbrev pub given : ℕ → List Edge → List ℕ → List Stop → Given
given n es us ps = record { vertices = n; edges = es; face = us; rebuilt = us; stops = ps; surface = 7 }

-- ---- document 01's cases

-- "K10: K9's edges, face wire and rebuilt wire, list 3, 1: edge 5 = (3, 1); wires 0+ 3+ 5+ 2+ and 1+ 5- 4+ 0-."
abbrev pub k10 : Given
k10 = given 4 k9_edges k9_wire (stop 3 zero64 one64 ∷ stop 1 two64 four64 ∷ [])

abbrev pub k10_edges : List Edge
k10_edges =
    between 0 2 ∷ between 0 1 ∷ between 1 0 ∷ between 2 3 ∷ between 3 2
    ∷ record { front = 3; back = 1; curve = Seam 7 (record { u = zero64; v = one64 }) (record { u = two64; v = four64 }) zero64 one64; preparation = Square }
    ∷ []

abbrev pub k10_answer : Answer
k10_answer = wires ((0 ∷ 6 ∷ 10 ∷ 4 ∷ []) ∷ (2 ∷ 11 ∷ 8 ∷ 1 ∷ []) ∷ [])

pub k10_edges_after : edges_after k10 ≡ k10_edges
unfolding seam_of seams_of
k10_edges_after = refl

pub k10_wires : split_wires k10 ≡ k10_answer
unfolding front_of back_of front_at back_at steps opened table_walk seam_of seams_of new_uses occurs marked_by split_wires
k10_wires = refl

-- "K11: edge 0 = (0, 1), use 0+ alone: 11."
abbrev pub k11 : Given
k11 = given 2 (between 0 1 ∷ []) (0 ∷ []) []

abbrev pub k11_answer : Answer
k11_answer = refused 11

pub k11_wires : split_wires k11 ≡ k11_answer
unfolding front_of back_of front_at back_at steps opened table_walk seams_of new_uses split_wires
k11_wires = refl

-- "K12: edges 0 to 2 are (0, 1), 3 to 5 are (1, 0), each used forward: 12."
abbrev pub k12 : Given
k12 =
    given 2 (between 0 1 ∷ between 0 1 ∷ between 0 1 ∷ between 1 0 ∷ between 1 0 ∷ between 1 0 ∷ []) (0 ∷ 2 ∷ 4 ∷ 6 ∷ 8 ∷ 10 ∷ []) []

abbrev pub k12_answer : Answer
k12_answer = refused 12

pub k12_wires : split_wires k12 ≡ k12_answer
unfolding front_of back_of front_at back_at steps opened table_walk seams_of new_uses split_wires
k12_wires = refl

-- "K13: edges 0 to 2 all (0, 0), each used forward: wires 2+, 1+, 0+."
abbrev pub k13 : Given
k13 = given 1 (between 0 0 ∷ between 0 0 ∷ between 0 0 ∷ []) (0 ∷ 2 ∷ 4 ∷ []) []

abbrev pub k13_answer : Answer
k13_answer = wires ((4 ∷ []) ∷ (2 ∷ []) ∷ (0 ∷ []) ∷ [])

pub k13_wires : split_wires k13 ≡ k13_answer
unfolding front_of back_of front_at back_at steps opened table_walk seams_of new_uses split_wires
k13_wires = refl

-- ---- corners

-- "No uses and an empty list: no wires."
pub no_uses : split_wires (given 4 k9_edges [] []) ≡ wires []
unfolding opened table_walk seams_of new_uses split_wires
no_uses = refl

-- "Vertices pair off (first with second, third with fourth ..); each pair is a new edge": the list 0, 1, 2, 3 with no uses gives 5+ 5- and 6+ 6-.
pub two_pairs : split_wires (given 4 k9_edges [] (stop 0 zero64 zero64 ∷ stop 1 zero64 one64 ∷ stop 2 one64 zero64 ∷ stop 3 one64 one64 ∷ []))
    ≡ wires ((10 ∷ 11 ∷ []) ∷ (12 ∷ 13 ∷ []) ∷ [])
unfolding front_of back_of front_at back_at steps opened table_walk seam_of seams_of new_uses split_wires
two_pairs = refl

-- "an odd last one makes no edge": K10's list with vertex 2 behind it
pub odd_last : edges_after (given 4 k9_edges k9_wire (stop 3 zero64 one64 ∷ stop 1 two64 four64 ∷ stop 2 zero64 zero64 ∷ [])) ≡ k10_edges
unfolding seam_of seams_of
odd_last = refl

-- "Marked are edge numbers that occur twice or more in the face's wires": K10 with no wire of the face. Edge 0 stands twice in the wire to be
-- rebuilt, and is not marked for that: the wires are 0+ 0- and 1+ 5- 4+ 3+ 5+ 2+.
pub not_by_rebuilt : split_wires (record { vertices = 4; edges = k9_edges; face = []; rebuilt = k9_wire; stops = k10.stops; surface = 7 })
    ≡ wires ((0 ∷ 1 ∷ []) ∷ (2 ∷ 11 ∷ 8 ∷ 6 ∷ 10 ∷ 4 ∷ []) ∷ [])
unfolding front_of back_of front_at back_at steps opened table_walk seam_of seams_of new_uses occurs marked_by split_wires
not_by_rebuilt = refl

-- Edges 0 = (0, 1), 1 = (1, 0), 2 = (1, 1), each used forward once. Where they stand once in the face too, nothing is marked: 0+ 2+ 1+.
abbrev pub three_edges : List ℕ → Given
three_edges face =
    record {
      vertices = 2;
      edges = between 0 1 ∷ between 1 0 ∷ between 1 1 ∷ [];
      face = face;
      rebuilt = 0 ∷ 2 ∷ 4 ∷ [];
      stops = [];
      surface = 7;
    }

pub none_marked : split_wires (three_edges (0 ∷ 2 ∷ 4 ∷ [])) ≡ wires ((0 ∷ 4 ∷ 2 ∷ []) ∷ [])
unfolding front_of back_of front_at back_at steps opened table_walk seams_of new_uses occurs marked_by split_wires
none_marked = refl

-- Where the face has 1+ 1-, edge 1 is marked, whichever its direction: 0+ 1+ and 2+.
pub marked_by_face : split_wires (three_edges (2 ∷ 3 ∷ [])) ≡ wires ((0 ∷ 2 ∷ []) ∷ (4 ∷ []) ∷ [])
unfolding front_of back_of front_at back_at steps opened table_walk seams_of new_uses occurs marked_by split_wires
marked_by_face = refl
