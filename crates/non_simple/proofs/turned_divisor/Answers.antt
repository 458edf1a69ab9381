use Rattle.std.proofs.Common.{rules}
use Rattle.non_simple.proofs.Scanning.{has_place}
use Rattle.non_simple.proofs.turned_divisor.Goals as goal

pub find_loop-found-requires-clause-by_index : goal.find_loop-found-requires-clause-by_index
find_loop-found-requires-clause-by_index c = has_place c.args.tables.now _ _ c.requires.wire_sound.1 (search rules)
