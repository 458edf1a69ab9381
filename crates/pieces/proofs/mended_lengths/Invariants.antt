use Rattle.compress.specs.Wires.{wires_of}
use Rattle.rows.specs.Held.{wires_in}
use Rattle.pieces.specs.Pieces.{parts_by}
use Rattle.pieces.proofs.Lengths.{Counted}
use Rattle.pieces.proofs.mended_lengths.Given as goal

abbrev pub invariant-loop-w : goal.invariant-loop-w
invariant-loop-w l =
    (goal.iterator-loop-w).can_next l.w-iterator × (goal.iterator-loop-w).is_finite l.w-iterator
    × Counted (parts_by l.p) (wires_in l.wires) l.initial.lengths l.lengths l.w-iterator.count l.n
    (wires_of l.w-iterator.iter.uses.now l.w-iterator.iter.lengths.now)
