use Rattle.std.proofs.Common.{rules}
use Rattle.correction.specs.nearest.Ends.{gap_of}
use Rattle.correction.proofs.nearest.Away.nearer.Goals as goal

pub returns : goal.returns
returns c = c.smaller.ensures gap_of (λ x m h. search rules)
