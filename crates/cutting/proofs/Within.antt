-- The cut parameter of a range without a cause has none as a parameter of it: so every pending vertex that a cut makes is accepted, for every k.
-- Assumes nothing.
use mathlib.Core.Path.{◌≡◌}
use Prim.Native.Nat.{ℕ}
use lib.Dec.{T}
use lib.Ieee.{Float, binary64, fits}
use Rattle.compress.specs.declared.Curve.{Curve}
use Rattle.compress.specs.declared.Vertex.TheVariants.{Pending}
use Rattle.floats.specs.Exact.{Within, CutParameter}
use Rattle.checks.specs.Causes.{range_cause, parameter_cause, curve_cause, vertex_cause}
use Rattle.checks.proofs.Sound.{lower_zero, range_ordered, parameter_sound, curve_range}
use Rattle.cutting.specs.parameter.Eighths.{Parameter}

module _ (k : ℕ) (t0 t1 r : Float) (f0 : T (fits binary64 t0)) (f1 : T (fits binary64 t1)) (m : CutParameter k t0 t1 r) where
  pub range_within : range_cause t0 t1 ≡ 0 → Within t0 t1 r
  range_within e = let o = range_ordered t0 t1 f0 f1 e in m.between o.0 o.1 o.2

  pub parameter_accepted : T (fits binary64 r) → range_cause t0 t1 ≡ 0 → parameter_cause t0 t1 r ≡ 0
  parameter_accepted f e = let w = range_within e in parameter_sound t0 t1 r f0 f1 f w.0 w.1 e

-- the vertex pending on a curve, where the parameter is what was computed
pub pending_accepted : (k : ℕ) (c : Curve) (r : Float) → Parameter k c r → curve_cause c ≡ 0 → vertex_cause (Pending c r) ≡ 0
unfolding vertex_cause
pending_accepted k c r m q = lower_zero (curve_cause c) _ q (m.accepted (curve_range c q))
