use Rattle.std.specs.Prelude.{◌≡◌}
use Rattle.std.specs.List.{range_with_len}
use Rattle.compress.specs.Wires.{over}
use Rattle.pieces.specs.Pieces.{chain_forward}
use Rattle.pieces.proofs.put_forward.Given as goal

abbrev pub invariant-loop-j : goal.invariant-loop-j
invariant-loop-j l = l.out ≡ over (chain_forward (range_with_len l.p.first l.j)) l.initial.out
