use Rattle.wire_kinds.specs.Kinds.{boundary_type}
use Rattle.wire_kinds.proofs.kind_of.Goals as goal

pub returns-then-not-is_closed : goal.returns-then-not-is_closed
unfolding boundary_type
returns-then-not-is_closed c = rw (← c.is_closed.ensures, c.if-not-is_closed.true)

pub returns-then-wire : goal.returns-then-wire
unfolding boundary_type
returns-then-wire c = rw (← c.is_closed.ensures, c.if-not-is_closed.false, c.if-wire.true)

pub returns-else-wire : goal.returns-else-wire
unfolding boundary_type
returns-else-wire c = rw (← c.is_closed.ensures, c.if-not-is_closed.false, c.if-wire.false)
