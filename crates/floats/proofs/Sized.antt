-- The f64's of size at most 1.0e15, which `sized_of` tests: they are finite, and below 2 ^ 50, which is 2 ^ 1124 units (a unit is the smallest f64 above zero, 2 ^ -1074). And what the constants of `specs/Exact.antt` are, by computation. Assumes nothing.
use Rattle.std.specs.Prelude.{◌≡◌, refl, suc, ◌+◌, ◌*◌, ◌^◌, ◌≤◌, ◌<◌, false, T, Float}
use Rattle.std.proofs.Common.{le_trans, lit<, lit≤}
use Rattle.std.specs.Float.{binary64}
use Rattle.std.specs.Float.Ieee.{emax, low, neg, fits, le, of_bits}
use Rattle.std.specs.Float.Ieee.Fits.{and_l, and_r}
use Rattle.compress.specs.Constants.{two64, eight64}
use Rattle.floats.specs.Exact.{big, sized_of}
use Rattle.floats.proofs.Value.{sgn, mag, Held}
use Rattle.floats.proofs.Rounds.{held_between, neg_held}
use Rattle.floats.proofs.Bounds.{Under, mag_within}

-- ---- the constants
pub two_held : Held binary64 two64
unfolding of_bits fits
two_held = record { fit = tt; bounded = tt }

pub two_sgn : sgn two64 ≡ false
unfolding of_bits
two_sgn = refl

pub two_mag : mag binary64 two64 ≡ 2 * 2 ^ low binary64
unfolding of_bits
two_mag = refl

pub eight_held : Held binary64 eight64
unfolding of_bits fits
eight_held = record { fit = tt; bounded = tt }

pub eight_sgn : sgn eight64 ≡ false
unfolding of_bits
eight_sgn = refl

pub eight_mag : mag binary64 eight64 ≡ 2 ^ 1077
unfolding of_bits
eight_mag = refl

pub big_held : Held binary64 big
unfolding of_bits fits
big_held = record { fit = tt; bounded = tt }

pub big_sgn : sgn big ≡ false
unfolding of_bits
big_sgn = refl

-- twice 1.0e15 is below the overflow
pub big_mag : mag binary64 big * 2 < 2 ^ (low binary64 + suc (emax binary64))
unfolding of_bits
big_mag = lit< tt

big_under : mag binary64 big ≤ 2 ^ 1124
unfolding of_bits
big_under = lit≤ tt

-- ---- an f64 of size at most 1.0e15
pub record Sized (x : Float) : Type 0 where
  pub fit : T (fits binary64 x)
  pub size : T (sized_of x)

pub sized_held : {x : Float} → Sized x → Held binary64 x
sized_held {x} h =
    held_between (neg_held big_held) big_held h.fit (and_l (le (neg big) x) (le x big) h.size) (and_r (le (neg big) x) (le x big) h.size)

pub sized_mag : {x : Float} → Sized x → mag binary64 x ≤ mag binary64 big
sized_mag {x} h =
    mag_within (sized_held h) big_held big_sgn (and_l (le (neg big) x) (le x big) h.size) (and_r (le (neg big) x) (le x big) h.size)

pub sized_under : {x : Float} → Sized x → Under binary64 1124 x
sized_under h = record { held = sized_held h; small = le_trans (sized_mag h) big_under }
