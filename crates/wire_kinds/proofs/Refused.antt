-- The cause of the kind of wire is 0 or a number of the table.
-- Assumes nothing.
use lib.Ieee.{Float}
use Rattle.compress.specs.declared.Uv.{Uv}
use Rattle.compress.specs.Refusals.{IsCause}
use Rattle.checks.specs.Causes.{uv_cause}
use Rattle.checks.proofs.Numbers.{lower_told, uv_told, float_told}
use Rattle.wire_kinds.specs.Kinds.{kind_cause_of}

pub kind_told : (a b : Uv) (x : Float) → IsCause (kind_cause_of a b x)
unfolding kind_cause_of
kind_told a b x = lower_told (uv_cause a) _ (uv_told a) (lower_told (uv_cause b) _ (uv_told b) (float_told x))
