-- No cause of a lone number, of a parameter or of a point is above 15, and so of what is put together from them.
-- Assumes nothing.
use mathlib.Core.Bool.{Bool, true, false, not}
use Prim.Native.Nat.{ℕ, zero, suc, ◌≤◌}
use native.Mathlib.Omega.{arith}
use lib.Ieee.{Float, lt}
use Rattle.compress.specs.Constants.{zero64}
use Rattle.floats.specs.Exact.{sized_of}
use Rattle.compress.specs.declared.Uv.{Uv}
use Rattle.compress.specs.Records.{pick}
use Rattle.checks.specs.Causes.{when, lower_of, lowest_of, float_cause, parameter_cause, period_cause, uv_cause, point_cause}
use Rattle.checks.proofs.Lowest.{Lower, none, first, second, lower_is}

pub when_small : (b : Bool) (n : ℕ) → n ≤ 15 → when b n ≤ 15
when_small true n h = h
when_small false n h = omega arith

pub pick_small : (b : Bool) (n : ℕ) → n ≤ 15 → pick b 1 n ≤ 15
pick_small true n h = omega arith
pick_small false n h = h

pub lower_small : (a b : ℕ) → a ≤ 15 → b ≤ 15 → lower_of a b ≤ 15
lower_small a b p q = by (lower_is a b)
  where
    by : Lower a b (lower_of a b) → lower_of a b ≤ 15
    by (none x y r) = omega arith
    by (first x r y) = omega arith
    by (second x r y) = omega arith

pub lowest_small : (f : ℕ → ℕ) (n : ℕ) → ((i : ℕ) → f i ≤ 15) → lowest_of f n ≤ 15
unfolding lowest_of
lowest_small f zero h = omega arith
lowest_small f (suc n) h = lower_small (lowest_of f n) (f n) (lowest_small f n h) (h n)

pub float_small : (x : Float) → float_cause x ≤ 15
unfolding float_cause
float_small x = when_small (not (sized_of x)) 4 (omega arith)

pub uv_small : (p : Uv) → uv_cause p ≤ 15
unfolding uv_cause
uv_small p = lower_small (float_cause p.u) _ (float_small p.u) (float_small p.v)

pub period_small : (p : Float) → period_cause p ≤ 15
unfolding period_cause
period_small p = lower_small (float_cause p) _ (float_small p) (when_small (not (lt zero64 p)) 5 (omega arith))

pub parameter_small : (t0 t1 t : Float) → parameter_cause t0 t1 t ≤ 15
unfolding parameter_cause
parameter_small t0 t1 t =
    lower_small (float_cause t) _ (float_small t)
    (lower_small (when (lt t t0) 5) _ (when_small (lt t t0) 5 (omega arith)) (when_small (lt t1 t) 5 (omega arith)))

pub point_small : (x y z : Float) → point_cause x y z ≤ 15
unfolding point_cause
point_small x y z = lower_small (float_cause x) _ (float_small x) (lower_small (float_cause y) _ (float_small y) (float_small z))
