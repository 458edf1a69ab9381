-- Document 02, A.3: where an edge is cut, k eighths of the way along the range of its curve. Definitions only.
use Rattle.std.specs.Prelude.{◌≡◌, ◌||◌, ℕ, ltb, T, Float}
use Rattle.std.specs.Float.Ieee.{le}
use Rattle.floats.specs.Exact.{sized_of, cut_parameter_of, Within}
use Rattle.compress.specs.declared.Curve.{Curve}
use Rattle.compress.specs.Records.{first_of, last_of}
use Rattle.compress.specs.Said.{Said, result, refused_or}
use Rattle.checks.specs.Causes.{when, range_cause, parameter_cause}

-- "It refuses k outside 1 to 7 with 18"
abbrev pub eighths_cause : ℕ → ℕ
eighths_cause k = when (ltb k 1 || ltb 7 k) 18

-- the parameter at which a curve is cut
unfoldable pub parameter_of : ℕ → Curve → Float
parameter_of k c = cut_parameter_of k (first_of c) (last_of c)

-- "the bound that the parameter never leaves its range is for every k": so on a curve without a cause it has none, no "pending parameter outside its
-- curve's t0 to t1".
pub record Parameter (k : ℕ) (c : Curve) (r : Float) : Type 0 where
  pub exact : r ≡ parameter_of k c
  pub accepted : range_cause (first_of c) (last_of c) ≡ 0 → parameter_cause (first_of c) (last_of c) r ≡ 0
  pub between : T (sized_of (first_of c)) → T (sized_of (last_of c)) → T (le (first_of c) (last_of c)) → Within (first_of c) (last_of c) r

-- the helper that picks the cut parameter, as a call: 4, 5, then 18
unfoldable pub cut_parameter_said : ℕ → Float → Float → Said Float
cut_parameter_said k t0 t1 = refused_or (range_cause t0 t1) (refused_or (eighths_cause k) (result (cut_parameter_of k t0 t1)))
