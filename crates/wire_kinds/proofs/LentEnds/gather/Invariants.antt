use Rattle.wire_kinds.proofs.Sorting.{Gathering}
use Rattle.wire_kinds.proofs.LentEnds.gather.Given as goal

abbrev pub invariant-loop-i : goal.invariant-loop-i
invariant-loop-i l = Gathering l.self.floats.now l.i l.at l.opens l.closed
