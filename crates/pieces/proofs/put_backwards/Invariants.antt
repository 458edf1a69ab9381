use Rattle.std.specs.Prelude.{◌≡◌, ◌-◌, ◌++◌, take, drop}
use Rattle.std.specs.List.{range_with_len}
use Rattle.pieces.specs.Pieces.{chain_backwards}
use Rattle.pieces.proofs.put_backwards.Given as goal

abbrev pub invariant-loop-j : goal.invariant-loop-j
invariant-loop-j l =
    l.out ≡ take (l.p.cuts - l.j) l.initial.out ++ (chain_backwards (range_with_len l.p.first l.j) ++ drop l.p.cuts l.initial.out)
