use Rattle.std.proofs.Common.{rules}
use Rattle.non_simple.proofs.Scanning.{turned_wire}
use Rattle.non_simple.proofs.turn_and_divide.Goals as goal

pub turned_divisor-requires : goal.turned_divisor-requires
turned_divisor-requires c = record { wire_sound = turned_wire _ c.args.wire.now _ _ _ c.rotate_left.ensures (search rules) c.requires.wire_sound }
