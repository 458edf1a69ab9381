use Rattle.correction.proofs.nearest.Fronts.{uses_after}
use Rattle.correction.proofs.nearest.nearest_ends.Goals as goal

pub nearest_front-v1-requires-clause-us_in_table : goal.nearest_front-v1-requires-clause-us_in_table
nearest_front-v1-requires-clause-us_in_table c = uses_after _ _ _ _ c.in_ok-u.ensures.cases.0 c.requires.second_in_table

pub nearest_front-v0-requires-clause-us_in_table : goal.nearest_front-v0-requires-clause-us_in_table
nearest_front-v0-requires-clause-us_in_table c = uses_after _ _ _ _ c.in_ok-u-2.ensures.cases.0 c.requires.first_in_table
