-- What a call of the split is lent, and every cause that is found before the walk. Definitions only.
use Rattle.std.specs.Prelude.{not, List, ℕ, ◌+◌, ◌*◌, ◌/◌, ltb, Float, length, take}
use Rattle.compress.specs.Records.{pick}
use Rattle.compress.specs.Said.{cause_or}
use Rattle.compress.specs.Shell.{edges_fit}
use Rattle.compress.specs.Wires.{total}
use Rattle.checks.specs.Causes.{when, lower_of, count_cause, edges_cause, uses_cause}
use Rattle.split.specs.seams.Stops.{stops_cause, odd_cause, repeat_cause}

-- the contents of the lent slices that a split may write: edge numbers and floats, and the buffers for uses and wire lengths
pub record Buffers : Type 0 where
  pub en : List ℕ
  pub ef : List Float
  pub us : List ℕ
  pub ls : List ℕ

-- what a call is lent beside these: the face's wires and the wires to be rebuilt, the vertices on the divisor with their uv points, and counts
pub record LentSplit : Type 0 where
  pub buffers : Buffers
  pub face_uses : List ℕ
  pub face_lengths : List ℕ
  pub rebuilt_uses : List ℕ
  pub rebuilt_lengths : List ℕ
  pub divisor : List ℕ
  pub points : List Float
  pub vertices : ℕ
  pub edges : ℕ
  pub face_wires : ℕ
  pub rebuilt_wires : ℕ
  pub stops : ℕ
  pub surface : ℕ

abbrev pub face_total : LentSplit → ℕ
face_total l = total (take l.face_wires l.face_lengths)

abbrev pub rebuilt_total : LentSplit → ℕ
rebuilt_total l = total (take l.rebuilt_wires l.rebuilt_lengths)

-- "an odd last one makes no edge"
abbrev pub pairs : LentSplit → ℕ
pairs l = l.stops / 2

-- ---- causes

-- the face's wires and those to be rebuilt: "64 wires into a call, 1,024 uses in all wires of a call", a count or a sum of wire lengths above
-- what was lent (1), and every edge number (3)
unfoldable pub split_wires_cause : ℕ → List ℕ → List ℕ → ℕ → List ℕ → List ℕ → ℕ → ℕ
split_wires_cause edges fu fl fw ru rl rw =
    pick (ltb 64 (fw + rw)) 1
    (pick (ltb (length fl) fw) 1
    (pick (ltb (length rl) rw) 1
    (pick (ltb 1024 (total (take fw fl) + total (take rw rl))) 1
    (pick (ltb (length fu) (total (take fw fl))) 1
    (pick (ltb (length ru) (total (take rw rl))) 1
    (lower_of (uses_cause edges fu (total (take fw fl))) (uses_cause edges ru (total (take rw rl)))))))))

-- 1 to 5, over all that was lent
unfoldable pub split_input_cause : LentSplit → ℕ
split_input_cause l =
    lower_of (count_cause 4096 l.vertices)
    (lower_of (edges_cause l.vertices l.buffers.en l.buffers.ef l.edges)
    (lower_of (split_wires_cause l.edges l.face_uses l.face_lengths l.face_wires l.rebuilt_uses l.rebuilt_lengths l.rebuilt_wires) (stops_cause l.vertices l.divisor l.points l.stops)))

-- "For a split, count the uses to be rebuilt and two for each new edge"
abbrev pub split_count : LentSplit → ℕ
split_count l = rebuilt_total l + pairs l * 2

-- "6 applies when that count is above 1,024, when the lent buffer for uses or for wire lengths has fewer places than that count, or when the
-- new edges pass 4,096 or the lent edge buffer."
unfoldable pub room_cause : Buffers → ℕ → ℕ → ℕ
room_cause b count edges =
    pick (ltb 1024 count) 6
    (pick (ltb (length b.us) count) 6
    (pick (ltb (length b.ls) count) 6 (when (not (edges_fit b.en b.ef edges)) 6)))

abbrev pub split_room_cause : LentSplit → ℕ
split_room_cause l = room_cause l.buffers (split_count l) (l.edges + pairs l)

-- a cause of those that come first, else of those that come next: all numbers of the first are below those of the next, so "the lowest number wins"
abbrev pub then_cause : ℕ → ℕ → ℕ
then_cause a b = cause_or a (λ n. n) b

unfoldable pub split_cause : LentSplit → ℕ
split_cause l =
    then_cause (split_input_cause l) (then_cause (split_room_cause l) (then_cause (odd_cause l.stops) (repeat_cause l.divisor l.stops)))
