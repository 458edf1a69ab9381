use Rattle.std.proofs.Common.{rules, ◌≡◌}
use mathlib.Core.Path.{◌∙◌}
use Rattle.std.proofs.lemmas.List.{get_or_default}
use Rattle.std.proofs.lemmas.Iterator.{IsFirst-from_position, YieldsList-from_slice}
use Rattle.std.proofs.lemmas.Iterator.Adapters.{serves_from_places}
use borrow.Author.Tests.{tests}
use Rattle.compress.specs.Rows.{edge_at}
use Rattle.compress.specs.Records.{front_at}
use Rattle.join.proofs.laying.Places.{position_found}
use Rattle.join.proofs.laying.find_index.Goals as goal

pub position-requires-clause-callable : goal.position-requires-clause-callable
position-requires-clause-callable c =
    serves_from_places (YieldsList-from_slice c.args.wire.now (search rules)) (λ x q k. search rules)
    (λ x k h e. let r = c.requires k h in let s = e ∙ get_or_default c.args.wire.now k x.now 0 h in λ _ _ _ _ _ _. rw s r)

pub returns : goal.returns
returns c =
    let a = c.args in
    let es = edge_at a.edges.now.numbers.now a.edges.now.floats.now in
    position_found es a.v a.wire.now c.position.result (IsFirst-from_position _ _ c.position.result (λ u. front_at es u ≡ a.v) (λ u. front_at es u ≡ a.v → ⊥) c.position.ensures.ran (YieldsList-from_slice a.wire.now (search rules)) (λ x q k. search (rules, tests)) (λ x q k. search (rules, tests)))
