use native.Mathlib.Omega.{arith}
use Rattle.correction.proofs.nearest.Fronts.{edge_row}
use Rattle.non_simple.proofs.divisor.Divisors.{stretch_known}
use Rattle.non_simple.proofs.divisor.divide.Goals as goal

pub front-v0-requires : goal.front-v0-requires
front-v0-requires c =
    let d = c.args.doubled.now in
    edge_row c.args.tables.now _ (c.requires.wire_sound.1 _ (omega (arith, c.div_ceil-k0.ensures, d.later, d.inside)))

pub nearest_ends-requires-clause-first_in_table : goal.nearest_ends-requires-clause-first_in_table
nearest_ends-requires-clause-first_in_table c =
    stretch_known _ _ 1 _ (omega (arith, c.args.doubled.now.inside)) c.requires.wire_sound.1
