use Rattle.std.proofs.Common.{◌≡◌, length}
use Rattle.rows.specs.Places.{SameTable}
use Rattle.pipe_shell.proofs.given.Given as goal

abbrev pub invariant-loop-v : goal.invariant-loop-v
invariant-loop-v l = (length l.table.numbers.now ≡ 12) × (length l.table.floats.now ≡ 28) × SameTable l.initial.table l.table
