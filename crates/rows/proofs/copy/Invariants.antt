use Rattle.std.proofs.Common.{◌≡◌, ◌≤◌, length, take, drop}
use Rattle.rows.proofs.copy.Given as goal

abbrev pub invariant-loop-i : goal.invariant-loop-i
invariant-loop-i l =
    (l.i ≤ length l.from) × (length l.to ≡ length l.initial.to)
    × (take l.i l.to ≡ take l.i l.from) × (drop l.i l.to ≡ drop l.i l.initial.to)
