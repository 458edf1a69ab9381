use Rattle.wire_kinds.specs.Kinds.{is_closed}
use Rattle.wire_kinds.proofs.is_closed.Goals as goal

pub returns : goal.returns
unfolding is_closed
returns c = rw c.distance2_uv.ensures
