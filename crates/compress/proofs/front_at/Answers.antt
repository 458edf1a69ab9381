use Rattle.compress.specs.Records.{front_at}
use Rattle.compress.proofs.front_at.Goals as goal

pub returns : goal.returns
unfolding front_at
returns c = rw (c.front.ensures, c.edge_at.ensures)
