use Rattle.compress.specs.Wires.{wires_of}
use Rattle.rows.specs.Held.{wires_in}
use Rattle.cutting.specs.mending.Steps.{numbers_of}
use Rattle.cutting.proofs.mending.Wiring.{Wiring}
use Rattle.cutting.proofs.mending.replace_wires.Given as goal

abbrev pub invariant-loop-w : goal.invariant-loop-w
invariant-loop-w g l =
    (goal.iterator-loop-w g).can_next l.w-iterator × (goal.iterator-loop-w g).is_finite l.w-iterator
    × Wiring (numbers_of g.A.EdgeNumber.number l.added) (wires_in l.wires) l.initial.out l.initial.out_lengths l.out l.out_lengths l.w-iterator.count l.at
    (wires_of l.w-iterator.iter.uses.now l.w-iterator.iter.lengths.now)
