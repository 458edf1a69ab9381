-- What the functions of the crate return, to the bit: definitions only. Each `add`, `sub`, `mul` and `div` is one IEEE 754 operation with one rounding.
use Rattle.std.specs.Prelude.{◌≡◌, Bool, ◌&&◌, ℕ, eqb, cond, pos, T, Float}
use Rattle.std.specs.Float.{binary64}
use Rattle.std.specs.Float.Ieee.{add, sub, mul, div, le, lt, neg, of_bits, of_int}
use Rattle.compress.specs.Constants.{two64, eight64}

-- the f64 1.0e15, by its bits
abbrev pub big : Float
big = of_bits binary64 0x430c_6bf5_2634_0000

-- Document 01, Bounds: "Each f64 handed in is at most 1.0e15 in size". False for a NaN, since every comparison with one is.
abbrev pub sized_of : Float → Bool
sized_of x = le (neg big) x && le x big

-- Document 01, Corners of split_closed_edges.rs: "An edge with equal ends is cut at (t0 + t1) / 2."
abbrev pub midpoint_of : Float → Float → Float
midpoint_of t0 t1 = div binary64 (add binary64 t0 t1) two64

-- Document 02, A.3: "t0 + (t1 - t0) × k / 8, one rounding a step from left to right". Each k below 2 ^ 53 is an f64, with no rounding.
abbrev pub eighths_on : ℕ → Float → Float → Float
eighths_on k t0 t1 = add binary64 t0 (div binary64 (mul binary64 (sub binary64 t1 t0) (of_int binary64 (pos k))) eight64)

-- "a value beyond either end becomes that end": by the comparisons of IEEE 754, so 0.0 is not beyond -0.0
abbrev pub kept_within : Float → Float → Float → Float
kept_within t0 t1 t = cond (lt t t0) t0 (cond (lt t1 t) t1 t)

-- "The helper that picks the cut parameter shall take a whole number k of eighths, 1 to 7. For 4 it is 01's formula; otherwise" the one above.
unfoldable pub cut_parameter_of : ℕ → Float → Float → Float
cut_parameter_of k t0 t1 = cond (eqb k 4) (midpoint_of t0 t1) (kept_within t0 t1 (eighths_on k t0 t1))

-- t is in the range from t0 to t1, the ends included
abbrev pub Within : Float → Float → Float → Type 0
Within t0 t1 t = T (le t0 t) × T (le t t1)

-- Of r, the cut parameter of t0 to t1. "the bound that the parameter never leaves its range is for every k", those outside 1 to 7 too; document 01:
-- "It may equal an end."
pub record CutParameter (k : ℕ) (t0 t1 r : Float) : Type 0 where
  pub exact : r ≡ cut_parameter_of k t0 t1
  pub between : T (sized_of t0) → T (sized_of t1) → T (le t0 t1) → Within t0 t1 r

-- a square, with its one rounding
abbrev pub square_of : Float → Float
square_of x = mul binary64 x x

-- what one coordinate, a of the first point and b of the second, adds to the squared distance
abbrev pub gap2 : Float → Float → Float
gap2 a b = square_of (sub binary64 b a)

-- Document 01, Nearest copy: "First smallest squared distance wins." Kind of wire: "Squared distance below 1.0e-3 is closed". Of two uv points, u then v.
abbrev pub distance2_uv : Float → Float → Float → Float → Float
distance2_uv u0 v0 u1 v1 = add binary64 (gap2 u0 u1) (gap2 v0 v1)

-- Document 01, Nearest ends: "Squares are added in the order x, y, z".
abbrev pub distance2_xyz : Float → Float → Float → Float → Float → Float → Float
distance2_xyz x0 y0 z0 x1 y1 z1 = add binary64 (add binary64 (gap2 x0 x1) (gap2 y0 y1)) (gap2 z0 z1)
