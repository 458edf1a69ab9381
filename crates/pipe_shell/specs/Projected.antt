-- Where a host projects the vertices of the pipe. Definitions only.
use Rattle.std.specs.Prelude.{ℕ, ltb, List, [], ◌∷◌, Float}
use Rattle.std.specs.Float.{binary64}
use Rattle.std.specs.Float.Ieee.{of_bits}
use Rattle.compress.specs.Constants.{zero64}
use Rattle.compress.specs.Records.{pick}
use Rattle.floats.specs.Exact.{cut_parameter_of}

-- once round the pipe: the f64 nearest to the whole turn
abbrev pub turn : Float
turn = of_bits binary64 0x4019_21fb_5444_2d18

-- u of a vertex: 0 and 1 stand where the turn begins, the others where the rims are cut by k
abbrev pub u_of : ℕ → ℕ → Float
u_of v k = pick (ltb v 2) zero64 (cut_parameter_of k zero64 turn)

-- the height of the pipe
abbrev pub height : Float
height = of_bits binary64 0x4010_0000_0000_0000

-- of each wire u, v of its first point, u, v of its last point, and its area: the lower rim goes round forward, the upper one back
abbrev pub ends_of_rims : List Float
ends_of_rims = zero64 ∷ zero64 ∷ turn ∷ zero64 ∷ zero64 ∷ turn ∷ height ∷ zero64 ∷ height ∷ zero64 ∷ []
