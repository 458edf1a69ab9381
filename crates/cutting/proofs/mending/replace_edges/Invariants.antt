use Rattle.cutting.specs.mending.Steps.{numbers_of}
use Rattle.cutting.proofs.mending.Wires.{Replaced}
use Rattle.cutting.proofs.mending.replace_edges.Given as goal

abbrev pub invariant-loop-u : goal.invariant-loop-u
invariant-loop-u g l = Replaced (numbers_of g.A.EdgeNumber.number l.added) l.wire l.initial.out l.u-index l.k l.out
