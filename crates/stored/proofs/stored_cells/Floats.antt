-- The float that is read of a pattern, as `f64_from_bits_with_nan` states it, is the one that `float_of` gives.
use mathlib.Core.Path.{◌≡◌, refl}
use mathlib.Core.Bool.{Bool, true, false}
use Prim.Native.Nat.{ℕ}
use lib.Ieee.{Float, nan, inf, fin, binary64, is_nan, nan_bits, of_bits}
use lib.Ieee.Bits.{nan_bits_is}
use Rattle.stored.specs.stored_cells.Floats.{float_of, choose}

chosen : (b : Bool) (x : Float) → b ≡ is_nan x → x ≡ choose b nan x
unfolding is_nan
chosen true nan h = refl
chosen true (inf s) h = cc
chosen true (fin s m e) h = cc
chosen false x h = refl

pub read_is : (bits : ℕ) → of_bits binary64 bits ≡ float_of bits
unfolding float_of
read_is bits = chosen (nan_bits binary64 bits) (of_bits binary64 bits) (nan_bits_is binary64 bits)
