use Rattle.std.proofs.Common.{◌≡◌, drop}
use Rattle.non_simple.specs.loops.Loop.{forgotten}
use Rattle.non_simple.proofs.loops.forget.Given as goal

abbrev pub invariant-loop-u : goal.invariant-loop-u
invariant-loop-u l = forgotten (drop l.u-index l.u-items) l.places ≡ forgotten l.u-items l.initial.places
