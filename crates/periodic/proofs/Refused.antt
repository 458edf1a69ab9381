-- The causes of unwrapping and of the nearest copy are 0 or numbers of the table, and none is above 15.
-- Assumes nothing.
use Prim.Native.Nat.{ℕ, ◌≤◌}
use native.Mathlib.Omega.{arith}
use lib.Ieee.{Float}
use Rattle.std.specs.Prelude.{Option, Some, None}
use Rattle.compress.specs.Refusals.{IsCause}
use Rattle.compress.specs.declared.Uv.{Uv}
use Rattle.checks.specs.Causes.{float_cause, uv_cause}
use Rattle.checks.proofs.Numbers.{none_is, lower_told, float_told, period_told, uv_told}
use Rattle.checks.proofs.Small.{lower_small, float_small, uv_small, period_small}
use Rattle.periodic.specs.Unwrap.{period_cause_of, unwrap_cause}
use Rattle.periodic.specs.Copies.{copy_cause}

pub period_cause_small : (p : Option Float) → IsCause (period_cause_of p) × (period_cause_of p ≤ 15)
unfolding period_cause_of
period_cause_small None = (none_is, omega arith)
period_cause_small (Some p) = (period_told p, period_small p)

pub unwrap_cause_small : (u u0 : Float) (p : Option Float) → IsCause (unwrap_cause u u0 p) × (unwrap_cause u u0 p ≤ 15)
unfolding unwrap_cause
unwrap_cause_small u u0 p =
    let c = period_cause_small p in (
      lower_told (float_cause u) _ (float_told u) (lower_told (float_cause u0) _ (float_told u0) c.0),
      lower_small (float_cause u) _ (float_small u) (lower_small (float_cause u0) _ (float_small u0) c.1),
    )

pub copy_cause_small : (p q : Uv) (up vp : Option Float) → IsCause (copy_cause p q up vp) × (copy_cause p q up vp ≤ 15)
unfolding copy_cause
copy_cause_small p q up vp =
    let a = period_cause_small up in
    let b = period_cause_small vp in (
      lower_told (uv_cause p) _ (uv_told p) (lower_told (uv_cause q) _ (uv_told q) (lower_told (period_cause_of up) _ a.0 b.0)),
      lower_small (uv_cause p) _ (uv_small p) (lower_small (uv_cause q) _ (uv_small q) (lower_small (period_cause_of up) _ a.1 b.1)),
    )
