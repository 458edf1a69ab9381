use Rattle.std.proofs.Common.{refl, arith}
use Rattle.pieces.specs.Pieces.{chain_forward}
use Rattle.pieces.proofs.Laying.{forward_turn}
use Rattle.pieces.proofs.put_forward.Goals as goal

pub loop-j-init : goal.loop-j-init
unfolding chain_forward
loop-j-init c = refl

pub loop-j-preserved : goal.loop-j-preserved
loop-j-preserved c =
    forward_turn _ c.args.out.now c.loop-j.out c.args.p.cuts c.loop-j.j c.requires.room (omega arith) c.loop-j.invariant _ refl
