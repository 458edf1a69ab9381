use Rattle.std.proofs.Common.{◌+◌, length}
use Rattle.non_simple.proofs.loops.Search.{Searching}
use Rattle.non_simple.proofs.loops.find_loop.Given as goal

abbrev pub invariant-loop-later : goal.invariant-loop-later
invariant-loop-later l = Searching l.wire l.from l.fn.places l.places (l.from + length l.yielded)
