use mathlib.Core.Path.{ap, ◌∙◌}
use Rattle.join.specs.joined.Outcome.{left_by}
use Rattle.join.proofs.Connecting.{first_holds, second_holds, none_holds}
use Rattle.join.proofs.connect_checked.Goals as goal

pub returns-in-Some-clause-outcome : goal.returns-in-Some-clause-outcome
returns-in-Some-clause-outcome c =
    c.connect_at.ensures.outcome ∙ ap (left_by c.args.wires.now) (first_holds _ _ _ _ _ _ c.in-Some.ensures)

pub returns-in-Some-find_index-clause-outcome : goal.returns-in-Some-find_index-clause-outcome
returns-in-Some-find_index-clause-outcome c =
    c.connect_at-in-Some-find_index.ensures.outcome
    ∙ ap (left_by c.args.wires.now) (second_holds _ _ _ _ _ _ c.in_default.ensures c.in-Some-find_index.ensures)

pub returns-clause-outcome : goal.returns-clause-outcome
returns-clause-outcome c =
    ap (left_by c.args.wires.now) (none_holds _ _ _ _ _ _ c.in_default.ensures c.in_default-find_index.ensures)
