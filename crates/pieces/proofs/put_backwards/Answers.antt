use Rattle.std.proofs.Common.{refl, arith, sym, ◌≡◌, ◌-◌}
use lib.ListN.{take-append-drop}
use Rattle.pieces.specs.Pieces.{chain_backwards}
use Rattle.pieces.proofs.Laying.{backwards_turn}
use Rattle.pieces.proofs.put_backwards.Goals as goal

pub loop-j-init : goal.loop-j-init
unfolding chain_backwards
loop-j-init c =
    let z : c.args.p.cuts - 0 ≡ c.args.p.cuts = omega arith in
    rw z (sym (take-append-drop c.args.p.cuts c.args.out.now))

pub loop-j-preserved : goal.loop-j-preserved
loop-j-preserved c =
    backwards_turn _ c.args.out.now c.loop-j.out c.args.p.cuts c.loop-j.j c.requires.room (omega arith) c.loop-j.invariant _ _ refl refl
