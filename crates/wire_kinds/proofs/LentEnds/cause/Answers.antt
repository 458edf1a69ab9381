use Rattle.std.proofs.Common.{rules}
use borrow.Author.Tests.{lt-ltb, le-ltb}
use Rattle.wire_kinds.specs.Kinds.{type_cause_at, sort_cause}
use Rattle.wire_kinds.proofs.LentEnds.cause.Goals as goal
use Rattle.wire_kinds.proofs.LentEnds.cause.Goals.{then-self-gt64-via-then-self-gt64, then-self-gt64-via-else-self-gt64+then-self}

pub returns-then-self-gt64 : goal.returns-then-self-gt64
unfolding sort_cause
returns-then-self-gt64 c =
    elim c.then-self-gt64.branch [
      | then-self-gt64-via-then-self-gt64 w ↦ simp (lt-ltb _ _ w.if-self-gt64.true)
      | then-self-gt64-via-else-self-gt64+then-self w ↦ simp (le-ltb _ _ w.if-self-gt64.false, lt-ltb _ _ w.if-self.true)
    ]

pub returns : goal.returns
unfolding sort_cause type_cause_at
returns c =
    simp (le-ltb _ _ c.if-self-gt64.false, le-ltb _ _ c.if-self.false) (c.lowest_cause.ensures (type_cause_at c.args.self.now.floats.now) (λ i r h p. search rules))
