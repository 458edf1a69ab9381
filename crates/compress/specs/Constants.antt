-- The f64's that definitions name, by their bits. Definitions only.
use Rattle.std.specs.Prelude.{Float}
use Rattle.std.specs.Float.{binary64}
use Rattle.std.specs.Float.Ieee.{of_bits}

abbrev pub zero64 : Float
zero64 = of_bits binary64 0

abbrev pub one64 : Float
one64 = of_bits binary64 0x3ff0_0000_0000_0000

abbrev pub two64 : Float
two64 = of_bits binary64 0x4000_0000_0000_0000

abbrev pub four64 : Float
four64 = of_bits binary64 0x4010_0000_0000_0000

abbrev pub eight64 : Float
eight64 = of_bits binary64 0x4020_0000_0000_0000
