use Rattle.std.proofs.Common.{sym, arith}
use Rattle.wire_kinds.proofs.Sorting.{gathering_start, open_turn, closed_turn}
use Rattle.wire_kinds.proofs.LentEnds.gather.Goals as goal
use Rattle.wire_kinds.proofs.LentEnds.gather.Goals.{then-is_open, else-is_open}

pub loop-i-init : goal.loop-i-init
loop-i-init c = gathering_start _ _ _

pub loop-i-preserved : goal.loop-i-preserved
loop-i-preserved c =
    let l = c.loop-i in
    elim c.if-is_open.branch [
      | then-is_open w ↦ rw (w.at-is, w.opens-is, w.closed-is) (open_turn _ _ _ _ _ l.invariant (sym w.if-is_open.ensures) (omega arith))
      | else-is_open w ↦ rw (w.at-is, w.opens-is, w.closed-is) (closed_turn _ _ _ _ _ l.invariant (sym w.if-is_open.ensures) (omega arith))
    ]
