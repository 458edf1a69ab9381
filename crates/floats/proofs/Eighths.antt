-- k eighths of the way from t0 to t1, kept between them, lies between them, for every k of 32 bits: no operation on the way overflows. With the middle
-- for 4 it meets the contract. Assumes nothing.
use Rattle.std.specs.Prelude.{◌≡◌, refl, ℕ, ◌^◌, ◌≤◌, ◌<◌, Bool, true, false, eqb, cond, pos, T, Float}
use borrow.Author.Tests.{ne_eqb}
use Rattle.std.proofs.Common.{sym, le_of_eq, le_of_lt, arith, lit<, lit≤, mul-le-mul_right}
use Rattle.std.specs.Float.{binary64}
use Rattle.std.specs.Float.Ieee.{fits, le, of_int}
use Rattle.floats.specs.Exact.{midpoint_of, eighths_on, kept_within, cut_parameter_of, Within, CutParameter}
use Rattle.floats.proofs.Rounds.{Rounds}
use Rattle.floats.proofs.Bounds.{Under, weaken, rounds_under, add_under, sub_under, mul_under, div_under}
use Rattle.floats.proofs.Mono.{clamp_between}
use Rattle.floats.proofs.Sized.{Sized, eight_held, eight_sgn, eight_mag, sized_held, sized_under}
use Rattle.floats.proofs.Middle.{midpoint_between}

-- a k of 32 bits, as an f64: below 2 ^ 32, which is 2 ^ 1106 units
whole_rounds : (k : ℕ) → Rounds binary64 (of_int binary64 (pos k)) k 0 1
unfolding of_int
whole_rounds k = record { sign = false; num = k; is = refl; val = omega arith }

whole_under : (k : ℕ) → k ≤ 2 ^ 32 → Under binary64 1106 (of_int binary64 (pos k))
whole_under k h = rounds_under 1106 (lit< tt) (lit< tt) (whole_rounds k) (mul-le-mul_right (2 ^ 1074) h) (omega arith)

step_under : {k : ℕ} {t0 t1 : Float} → k ≤ 2 ^ 32 → Sized t0 → Sized t1 → Under binary64 1155 (eighths_on k t0 t1)
step_under {k} h a b =
    let gap = sub_under (lit< tt) (sized_under b) (sized_under a) in
    let product = mul_under 1157 (lit< tt) (lit≤ tt) gap (whole_under k h) in
    let part = div_under 1077 1154 (lit< tt) (lit≤ tt) product eight_held eight_sgn (le_of_eq (sym eight_mag)) in
    add_under (lit< tt) (weaken (lit≤ tt) (sized_under a)) part

step_between : {k : ℕ} {t0 t1 : Float} → k ≤ 2 ^ 32 → Sized t0 → Sized t1 → T (le t0 t1)
    → Within t0 t1 (kept_within t0 t1 (eighths_on k t0 t1))
step_between {k} {t0} {t1} h a b l =
    clamp_between t0 t1 (eighths_on k t0 t1) (sized_held a).bounded (sized_held b).bounded (step_under h a b).held.bounded l

-- of the cut parameter, for 4 and for every other k
pub parameter_between : {k : ℕ} {t0 t1 : Float} → k ≤ 2 ^ 32 → Sized t0 → Sized t1 → T (le t0 t1)
    → Within t0 t1 (cut_parameter_of k t0 t1)
unfolding cut_parameter_of
parameter_between {k} {t0} {t1} h a b l = by (eqb k 4)
  where
    by : (c : Bool) → Within t0 t1 (cond c (midpoint_of t0 t1) (kept_within t0 t1 (eighths_on k t0 t1)))
    by true = midpoint_between a b l
    by false = step_between h a b l

-- so what is told meets what the contract says of it
pub parameter_meets : (k : ℕ) (t0 t1 r : Float) → k < 2 ^ 32 → T (fits binary64 t0) → T (fits binary64 t1) → r ≡ cut_parameter_of k t0 t1 → CutParameter k t0 t1 r
parameter_meets k t0 t1 r h f0 f1 e =
    record {
      exact = e;
      between = λ s0 s1 l. rw e (parameter_between (le_of_lt h) (record { fit = f0; size = s0 }) (record { fit = f1; size = s1 }) l);
    }

-- ---- what the code's test of k says
pub by_middle : (k : ℕ) (t0 t1 r : Float) → k ≡ 4 → r ≡ midpoint_of t0 t1 → r ≡ cut_parameter_of k t0 t1
unfolding cut_parameter_of
by_middle k t0 t1 r p e = rw (p, e)

pub by_eighths : (k : ℕ) (t0 t1 r : Float) → (k ≡ 4 → ⊥) → r ≡ kept_within t0 t1 (eighths_on k t0 t1) → r ≡ cut_parameter_of k t0 t1
unfolding cut_parameter_of
by_eighths k t0 t1 r p e = rw (ne_eqb k 4 p, e)
