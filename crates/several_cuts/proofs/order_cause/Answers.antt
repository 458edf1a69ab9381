use Rattle.std.proofs.Common.{refl}
use borrow.Author.Tests.{lt-ltb, le-ltb}
use Rattle.several_cuts.specs.Contract.{order_cause}
use Rattle.several_cuts.proofs.order_cause.Goals as goal

pub returns-then-many : goal.returns-then-many
unfolding order_cause
returns-then-many c = rw (lt-ltb _ _ c.if-many.true) refl

pub returns : goal.returns
unfolding order_cause
returns c = rw (le-ltb _ _ c.if-many.false, ← c.rises.ensures) c.cause_when.ensures
