use Rattle.compress.specs.Wires.{wires_of}
use Rattle.rows.specs.Held.{wires_in}
use Rattle.rows.proofs.wires.Copying.{Copied}
use Rattle.rows.proofs.wires.copy_wires.Given as goal

abbrev pub invariant-loop-wire : goal.invariant-loop-wire
invariant-loop-wire l =
    (goal.iterator-loop-wire).can_next l.wire-iterator × (goal.iterator-loop-wire).is_finite l.wire-iterator
    × Copied (wires_in l.made) l.initial.out l.out l.at (wires_of l.wire-iterator.uses.now l.wire-iterator.lengths.now)
