use Rattle.rows.specs.wires.Turn.{turned}
use Rattle.rows.proofs.wires.Turns.{length_turned}
use Rattle.compress.proofs.Rest.{rest_laid}
use Rattle.join.proofs.laying.lay_turned.Goals as goal

pub returns : goal.returns
returns c =
    let a = c.args in
    let l = length_turned a.w.now.by a.w.now.wire.now a.w.now.turn in
    let t = turned a.w.now.by a.w.now.wire.now in
    rw (← l) (rest_laid a.out.now a.at _ t (rw (← l) at c.rotate_left.ensures))
