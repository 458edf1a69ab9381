use mathlib.Core.Path.{refl}
use native.Mathlib.Numerals.{add-one}
use lib.ListN.{length-set}
use native.Mathlib.Omega.{arith}
use Rattle.cutting.specs.mending.Parts.{uses_of_parts}
use Rattle.cutting.proofs.mending.push.Goals as goal

pub bounds-out-at-in-Two-2 : goal.bounds-out-at-in-Two-2
bounds-out-at-in-Two-2 c = simp length-set (omega arith)

pub returns-in-One : goal.returns-in-One
unfolding uses_of_parts
returns-in-One c = rw c.in-One.is (refl, refl)

pub returns-in-Two : goal.returns-in-Two
unfolding uses_of_parts
returns-in-Two c = rw (c.in-Two.is, add-one) (refl, refl)
