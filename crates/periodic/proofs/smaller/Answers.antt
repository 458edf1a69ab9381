use Rattle.compress.proofs.Choices.{takes_later, takes_earlier}
use Rattle.periodic.proofs.smaller.Goals as goal

pub returns-then-to_b-to_a : goal.returns-then-to_b-to_a
returns-then-to_b-to_a g c =
    λ f h. takes_later f _ _ _ _ (h _ _ c.measure-to_a.ensures) (h _ _ c.measure-to_b.ensures) c.if-to_b-to_a.true

pub returns : goal.returns
returns g c =
    λ f h. takes_earlier f _ _ _ _ (h _ _ c.measure-to_a.ensures) (h _ _ c.measure-to_b.ensures) c.if-to_b-to_a.false
