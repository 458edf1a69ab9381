use Rattle.std.proofs.Common.{rules, ◌∙◌}
use mathlib.Core.List.{foldl}
use Rattle.compress.specs.Choice.{smaller}
use Rattle.periodic.specs.Copies.{nearest_copy_of, copies_along, later_shifts, shifts_of, from}
use Rattle.periodic.proofs.Copies.{best_over}
use Rattle.periodic.proofs.Choices.{foldl_parts}
use Rattle.periodic.proofs.copy_nearest.Goals as goal

pub returns : goal.returns
unfolding nearest_copy_of
returns c =
    let a = c.args in
    let near = smaller (from a.p) in
    let over = c.over_later.ensures (λ best du. foldl near best (copies_along a.q du (shifts_of a.vp))) (λ b d r h. search rules)
    ∙ best_over near a.q a.vp (later_shifts a.up) c.later_along-best.result in
    rw (over, c.later_along-best.ensures, c.shift-first.ensures, c.first_shift.ensures, c.first_shift-du.ensures, foldl_parts)
