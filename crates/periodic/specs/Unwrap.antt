-- Unwrapping (`get_mindiff`): of five candidates the one nearest to u0. Definitions only.
use Rattle.std.specs.Prelude.{List, [], ◌∷◌, ℕ, Option, Some, None, Float}
use Rattle.std.specs.Float.{binary64}
use Rattle.std.specs.Float.Ieee.{add, sub, mul, neg, lt}
use Rattle.compress.specs.Constants.{zero64, one64, two64}
use Rattle.compress.specs.Records.{pick}
use Rattle.compress.specs.Said.{Said, result, refused_or}
use Rattle.checks.specs.Causes.{lower_of, float_cause, period_cause}
use Rattle.compress.specs.Choice.{smallest}

-- "u + i × period for i from -2 to 2, five candidates by value"
abbrev pub candidates_of : Float → Float → List Float
candidates_of u p =
    add binary64 u (mul binary64 (neg two64) p)
    ∷ add binary64 u (mul binary64 (neg one64) p)
    ∷ add binary64 u (mul binary64 zero64 p)
    ∷ add binary64 u (mul binary64 one64 p)
    ∷ add binary64 u (mul binary64 two64 p)
    ∷ []

-- the size of the rounded difference from u0
abbrev pub size_of : Float → Float
size_of d = pick (lt d zero64) (neg d) d

unfoldable pub away_from : Float → Float → Float
away_from u0 x = size_of (sub binary64 x u0)

-- "the one nearest u0 wins, the earlier on a tie"
unfoldable pub nearest_of : Float → List Float → Float
nearest_of u0 [] = u0
nearest_of u0 (c ∷ cs) = smallest (away_from u0) c cs

-- "With no period, u comes back as given, to the bit."
unfoldable pub unwrapped : Float → Float → Option Float → Float
unwrapped u u0 None = u
unwrapped u u0 (Some p) = nearest_of u0 (candidates_of u p)

-- a period is absent, or is checked
unfoldable pub period_cause_of : Option Float → ℕ
period_cause_of None = 0
period_cause_of (Some p) = period_cause p

unfoldable pub unwrap_cause : Float → Float → Option Float → ℕ
unwrap_cause u u0 period = lower_of (float_cause u) (lower_of (float_cause u0) (period_cause_of period))

unfoldable pub get_mindiff : Float → Float → Option Float → Said Float
get_mindiff u u0 period = refused_or (unwrap_cause u u0 period) (result (unwrapped u u0 period))
