use Rattle.std.proofs.Common.{rules, ◌∙◌}
use Rattle.compress.specs.Choice.{smaller}
use Rattle.periodic.specs.Copies.{from, shifted, later_shifts}
use Rattle.periodic.proofs.Copies.{best_along}
use Rattle.periodic.proofs.later_along.Goals as goal

pub returns : goal.returns
returns c =
    let a = c.args in
    c.over_later.ensures (λ best dv. smaller (from a.p) best (shifted a.q a.du dv)) (λ b d r h. search rules) ∙ best_along (smaller (from a.p)) a.q a.du (later_shifts a.vp) a.best
