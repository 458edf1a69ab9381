-- Worked examples of the definitions of `specs/Exact.antt`, each found by computing. Assumes nothing.
use Rattle.std.specs.Prelude.{◌≡◌, refl, true, false, List, [], ◌∷◌, map, replicate, ℕ, Float}
use Rattle.std.specs.Float.{nan, inf, binary64}
use Rattle.std.specs.Float.Ieee.{add, sub, mul, div, round, le, lt, neg, of_bits, of_int}
use Rattle.compress.specs.Constants.{zero64, one64, four64, eight64}
use Rattle.floats.specs.Exact.{big, sized_of, eighths_on, kept_within, cut_parameter_of, distance2_uv, distance2_xyz}

-- K1's edge, from 0.0 to 8.0, is cut at 4.0 for 4 ..
pub middle_of_0_and_8 : cut_parameter_of 4 zero64 eight64 ≡ four64
unfolding add div round of_bits cut_parameter_of
middle_of_0_and_8 = refl

-- .. and at 1.0 for 1
pub eighth_of_0_and_8 : cut_parameter_of 1 zero64 eight64 ≡ one64
unfolding add sub mul div neg lt round of_bits of_int cut_parameter_of
eighth_of_0_and_8 = refl

-- negative zero stays negative zero for 4, and by the other formula it is 0.0, which is not beyond -0.0
pub middle_of_negative_zeros : cut_parameter_of 4 (neg zero64) (neg zero64) ≡ neg zero64
unfolding add div round neg of_bits cut_parameter_of
middle_of_negative_zeros = refl

pub eighth_of_negative_zeros : cut_parameter_of 1 (neg zero64) (neg zero64) ≡ zero64
unfolding add sub mul div neg lt round of_bits of_int cut_parameter_of
eighth_of_negative_zeros = refl

-- the f64 of n units, a unit being the smallest above zero, 5e-324
abbrev pub units : ℕ → Float
units n = of_bits binary64 n

-- the cut parameters for k from 1 to 7
abbrev pub seven_of : Float → Float → List Float
seven_of t0 t1 = map (λ k. cut_parameter_of k t0 t1) (1 ∷ 2 ∷ 3 ∷ 4 ∷ 5 ∷ 6 ∷ 7 ∷ [])

-- From one unit to two there is nothing between them: each of the seven is an end. For 4 the half unit is rounded to the even one of the two ends ..
pub seven_of_smallest : seven_of (units 1) (units 2) ≡ units 1 ∷ units 1 ∷ units 1 ∷ units 2 ∷ units 2 ∷ units 2 ∷ units 2 ∷ []
unfolding add sub mul div neg lt round of_bits of_int cut_parameter_of
seven_of_smallest = refl

-- .. so for 4 the other formula would tell one unit, where document 01's tells two
pub four_by_eighths : kept_within (units 1) (units 2) (eighths_on 4 (units 1) (units 2)) ≡ units 1
unfolding add sub mul div neg lt round of_bits of_int
four_by_eighths = refl

-- from -1.0e15 to 1.0e15: -7.5e14, -5.0e14, -2.5e14, 0.0 and the same above it
pub seven_of_widest : seven_of (neg big) big
    ≡ of_bits binary64 0xc305_50f7_dca7_0000 ∷ of_bits binary64 0xc2fc_6bf5_2634_0000 ∷ of_bits binary64 0xc2ec_6bf5_2634_0000 ∷ zero64
    ∷ of_bits binary64 0x42ec_6bf5_2634_0000 ∷ of_bits binary64 0x42fc_6bf5_2634_0000 ∷ of_bits binary64 0x4305_50f7_dca7_0000 ∷ []
unfolding add sub mul div neg lt round of_bits of_int cut_parameter_of
seven_of_widest = refl

-- a range of one place
pub seven_of_one : seven_of big big ≡ replicate 7 big
unfolding add sub mul div neg lt round of_bits of_int cut_parameter_of
seven_of_one = refl

pub nan_is_not_sized : sized_of nan ≡ false
unfolding le neg of_bits
nan_is_not_sized = refl

pub infinity_is_not_sized : sized_of (inf false) ≡ false
unfolding le neg of_bits
infinity_is_not_sized = refl

pub bound_is_sized : sized_of big ≡ true
unfolding le neg of_bits
bound_is_sized = refl

pub negative_bound_is_sized : sized_of (neg big) ≡ true
unfolding le neg of_bits
negative_bound_is_sized = refl

-- K17's ends, 0.03125 apart: 0.0009765625
pub ends_of_k17 : distance2_uv zero64 zero64 (of_bits binary64 0x3fa0_0000_0000_0000) zero64 ≡ of_bits binary64 0x3f50_0000_0000_0000
unfolding add sub mul round neg of_bits
ends_of_k17 = refl

-- The order of the sums is part of the definition. With differences a, 1, a, where a is 1.25 * 2 ^ -27, each of the two squares beside the 1 is rounded away ..
pub small_squares_alone : distance2_xyz zero64 zero64 zero64 (of_bits binary64 0x3e44_0000_0000_0000) (of_bits binary64 0x3ff0_0000_0000_0000) (of_bits binary64 0x3e44_0000_0000_0000) ≡ of_bits binary64 0x3ff0_0000_0000_0000
unfolding add sub mul round neg of_bits
small_squares_alone = refl

-- .. and with a, a, 1 their sum is not
pub small_squares_first : distance2_xyz zero64 zero64 zero64 (of_bits binary64 0x3e44_0000_0000_0000) (of_bits binary64 0x3e44_0000_0000_0000) (of_bits binary64 0x3ff0_0000_0000_0000) ≡ of_bits binary64 0x3ff0_0000_0000_0001
unfolding add sub mul round neg of_bits
small_squares_first = refl
