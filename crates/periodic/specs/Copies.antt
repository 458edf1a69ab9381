-- Nearest copy (`periodic_iterator` with the `min_by` over it). Definitions only.
use Rattle.std.specs.Prelude.{List, [], ◌∷◌, ◌++◌, ℕ, Option, Some, None, Float}
use Rattle.std.specs.Float.{binary64}
use Rattle.std.specs.Float.Ieee.{add, mul, neg}
use Rattle.compress.specs.Constants.{zero64, two64}
use Rattle.floats.specs.Exact.{distance2_uv}
use Rattle.compress.specs.declared.Uv.{Uv}
use Rattle.compress.specs.Said.{Said, result, refused_or}
use Rattle.checks.specs.Causes.{lower_of, uv_cause}
use Rattle.compress.specs.Choice.{smallest}
use Rattle.periodic.specs.Unwrap.{period_cause_of}

-- "Shifts are -2, -1, 0, 1, 2 periods, ..; an absent period has the shift 0 only."
abbrev pub first_shift : Option Float → Float
first_shift None = zero64
first_shift (Some p) = mul binary64 (neg two64) p

abbrev pub later_shifts : Option Float → List Float
later_shifts None = []
later_shifts (Some p) = neg p ∷ zero64 ∷ p ∷ mul binary64 two64 p ∷ []

abbrev pub shifts_of : Option Float → List Float
shifts_of period = first_shift period ∷ later_shifts period

abbrev pub shifted : Uv → Float → Float → Uv
shifted q du dv = record { u = add binary64 q.u du; v = add binary64 q.v dv }

-- the copies with one shift in u
abbrev pub copies_along : Uv → Float → List Float → List Uv
copies_along q du [] = []
copies_along q du (dv ∷ dvs) = shifted q du dv ∷ copies_along q du dvs

-- "u outermost"
abbrev pub copies_over : Uv → List Float → Option Float → List Uv
copies_over q [] vp = []
copies_over q (du ∷ dus) vp = copies_along q du (shifts_of vp) ++ copies_over q dus vp

abbrev pub from : Uv → Uv → Float
from p q = distance2_uv p.u p.v q.u q.v

-- "First smallest squared distance wins."
unfoldable pub nearest_copy_of : Uv → Uv → Option Float → Option Float → Uv
nearest_copy_of p q up vp =
    smallest (from p) (shifted q (first_shift up) (first_shift vp))
    (copies_along q (first_shift up) (later_shifts vp) ++ copies_over q (later_shifts up) vp)

unfoldable pub copy_cause : Uv → Uv → Option Float → Option Float → ℕ
copy_cause p q up vp = lower_of (uv_cause p) (lower_of (uv_cause q) (lower_of (period_cause_of up) (period_cause_of vp)))

unfoldable pub nearest_copy_said : Uv → Uv → Option Float → Option Float → Said Uv
nearest_copy_said p q up vp = refused_or (copy_cause p q up vp) (result (nearest_copy_of p q up vp))
