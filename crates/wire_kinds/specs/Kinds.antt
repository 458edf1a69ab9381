-- Kind of wire (`boundary_type`), and the sorting of wires. Definitions only.
use Rattle.std.specs.Prelude.{Bool, true, false, not, List, [], ◌∷◌, ◌++◌, ℕ, zero, suc, ◌+◌, ◌*◌, eqb, ltb, length, get_or, Float}
use Rattle.std.specs.Float.{binary64, nan}
use Rattle.std.specs.Float.Ieee.{lt, of_bits}
use Rattle.compress.specs.Constants.{zero64}
use Rattle.floats.specs.Exact.{distance2_uv}
use Rattle.compress.specs.declared.Uv.{Uv}
use Rattle.compress.specs.Records.{pick}
use Rattle.compress.specs.Said.{Said, result, none, refused, cause_or, refused_or}
use Rattle.compress.specs.Wires.{over}
use Rattle.checks.specs.Causes.{lower_of, lowest_of, float_cause, uv_cause}
use Rattle.wire_kinds.specs.declared.BoundaryType.{BoundaryType}
use Rattle.wire_kinds.specs.declared.BoundaryType.TheVariants.{Positive, Negative, NotClosed}
use Rattle.wire_kinds.specs.declared.Ends.{Ends}

-- the threshold on the squared distance of the ends, 1.0e-3
abbrev pub closing : Float
closing = of_bits binary64 0x3f50_624d_d2f1_a9fc

-- "Squared distance below 1.0e-3 is closed: Positive if the area is above 0, else Negative. Otherwise NotClosed."
unfoldable pub is_closed : Uv → Uv → Bool
is_closed a b = lt (distance2_uv a.u a.v b.u b.v) closing

unfoldable pub boundary_type : Uv → Uv → Float → BoundaryType
boundary_type a b area = pick (is_closed a b) (pick (lt zero64 area) Positive Negative) NotClosed

unfoldable pub kind_cause_of : Uv → Uv → Float → ℕ
kind_cause_of a b area = lower_of (uv_cause a) (lower_of (uv_cause b) (float_cause area))

unfoldable pub boundary_type_said : Uv → Uv → Float → Said BoundaryType
boundary_type_said a b area = refused_or (kind_cause_of a b area) (result (boundary_type a b area))

-- the number of a kind of wire, as a host is told it
abbrev pub boundary_number : BoundaryType → ℕ
boundary_number Positive = 0
boundary_number Negative = 1
boundary_number NotClosed = 2

-- ---- the sorting of wires: a row of five floats for each, first point, last point and area

-- how many floats a wire has in the sorting: u, v of its first and of its last end, and its area
abbrev pub floats_per_wire : ℕ
floats_per_wire = 5

abbrev pub first_point : List Float → ℕ → Uv
first_point fs i = record { u = get_or fs (i * floats_per_wire) nan; v = get_or fs (i * floats_per_wire + 1) nan }

abbrev pub last_point : List Float → ℕ → Uv
last_point fs i = record { u = get_or fs (i * floats_per_wire + 2) nan; v = get_or fs (i * floats_per_wire + 3) nan }

abbrev pub ends_at : List Float → ℕ → Ends
ends_at fs i = record { first = first_point fs i; last = last_point fs i; area = get_or fs (i * floats_per_wire + 4) nan }

unfoldable pub type_at : List Float → ℕ → BoundaryType
type_at fs i = boundary_type (first_point fs i) (last_point fs i) (get_or fs (i * floats_per_wire + 4) nan)

unfoldable pub type_cause_at : List Float → ℕ → ℕ
type_cause_at fs i = kind_cause_of (first_point fs i) (last_point fs i) (get_or fs (i * floats_per_wire + 4) nan)

abbrev pub is_open : BoundaryType → Bool
is_open Positive = false
is_open Negative = false
is_open NotClosed = true

abbrev pub same : Bool → Bool → Bool
same a b = pick a b (not b)

-- wire i is open, or is closed, as asked for
unfoldable pub is_wanted : List Float → Bool → ℕ → Bool
is_wanted fs w i = same (is_open (type_at fs i)) w

-- the numbers below n that are wanted, "in given order"
unfoldable pub wanted_below : List Float → Bool → ℕ → List ℕ
wanted_below fs w zero = []
wanted_below fs w (suc n) = wanted_below fs w n ++ pick (is_wanted fs w n) (n ∷ []) []

unfoldable pub sort_cause : List Float → ℕ → ℕ
sort_cause fs n = pick (ltb 64 n) 1 (pick (ltb (length fs) (n * floats_per_wire)) 1 (lowest_of (type_cause_at fs) n))

-- the answer, with the count of closed wires, and the contents of the two lent slices
pub record SortOutcome : Type 0 where
  pub said : Said ℕ
  pub opens : List ℕ
  pub closed : List ℕ

-- nothing lent is changed
abbrev pub unsorted : Said ℕ → List ℕ → List ℕ → SortOutcome
unsorted s os cs = record { said = s; opens = os; closed = cs }

-- both groups are written to the front of their slices
abbrev pub sorted_into : List ℕ → List ℕ → List ℕ → List ℕ → SortOutcome
sorted_into found rest os cs = record { said = result (length rest); opens = over found os; closed = over rest cs }

-- `"none" unless exactly two wires are NotClosed`; 6 where no other number and no "none" is
abbrev pub sort_checked : List ℕ → List ℕ → List ℕ → List ℕ → SortOutcome
sort_checked found rest os cs =
    pick (eqb (length found) 2)
    (pick (ltb (length os) 2) (unsorted (refused 6) os cs)
    (pick (ltb (length cs) (length rest)) (unsorted (refused 6) os cs) (sorted_into found rest os cs)))
    (unsorted none os cs)

unfoldable pub sort_wires : List Float → ℕ → List ℕ → List ℕ → SortOutcome
sort_wires fs n os cs =
    cause_or (sort_cause fs n) (λ k. unsorted (refused k) os cs)
    (sort_checked (wanted_below fs true n) (wanted_below fs false n) os cs)
