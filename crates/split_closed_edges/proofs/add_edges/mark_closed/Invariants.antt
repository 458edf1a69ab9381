use Rattle.std.proofs.Common.{length}
use Rattle.split_closed_edges.proofs.add_edges.Marking.{Marking}
use Rattle.split_closed_edges.proofs.add_edges.mark_closed.Given as goal

abbrev pub invariant-loop-i : goal.invariant-loop-i
invariant-loop-i l = Marking l.count l.edges.numbers.now l.initial.added l.added (length l.yielded) l.m
