-- The floats of bit patterns. Definitions only.
use Rattle.std.specs.Prelude.{Bool, true, false, ℕ, eqb, Float}
use Rattle.std.specs.Float.{binary64, nan}
use Rattle.std.specs.Float.Ieee.{eq, of_bits, to_bits, nan_bits}

abbrev pub choose : {A : Type 0} → Bool → A → A → A
choose true a b = a
choose false a b = b

-- the float of a bit pattern; every pattern of a NaN gives the one NaN
unfoldable pub float_of : ℕ → Float
float_of bits = choose (nan_bits binary64 bits) nan (of_bits binary64 bits)

-- x has this bit pattern; a NaN has that of any NaN
unfoldable pub has_pattern : Float → ℕ → Bool
has_pattern x bits = choose (eq x x) (eqb (to_bits binary64 x) bits) (nan_bits binary64 bits)
