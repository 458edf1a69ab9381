use mathlib.Core.Path.{ap, ◌∙◌}
use Rattle.join.specs.joined.Outcome.{left_by}
use Rattle.join.proofs.Connecting.{connected_kept, connected_exchanged}
use Rattle.join.proofs.connect_at.Goals as goal

pub returns-then-index-eq0-clause-outcome : goal.returns-then-index-eq0-clause-outcome
returns-then-index-eq0-clause-outcome c =
    c.join_turned.ensures.outcome ∙ ap (left_by c.args.wires.now) (connected_kept _ _ _ _ _ _ _ _ c.if-index-eq0.true)

pub returns-clause-outcome : goal.returns-clause-outcome
returns-clause-outcome c =
    c.join_turned-2.ensures.outcome ∙ ap (left_by c.args.wires.now) (connected_exchanged _ _ _ _ _ _ _ _ c.if-index-eq0.false)
