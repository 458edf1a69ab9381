use Rattle.rows.proofs.wires.Turns.{turned_by_parts}
use Rattle.rows.proofs.wires.rotate_left.Goals as goal

pub returns : goal.returns
returns c =
    turned_by_parts c.args.by c.args.wire.now c.args.out.now c.requires.0 c.requires.1 _ _ c.copy.ensures c.copy-2.ensures
