use Rattle.std.proofs.Common.{rules, ◌/◌, slice_index_or}
use mathlib.Core.Path.{sym}
use Rattle.checks.specs.Causes.{edge_number_cause, uses_cause}
use Rattle.checks.proofs.uses.Goals as goal

pub returns-then-are_uses_sound : goal.returns-then-are_uses_sound
returns-then-are_uses_sound c = sym (c.are_uses_sound.ensures c.if-are_uses_sound.true)

pub returns : goal.returns
unfolding uses_cause
returns c = c.lowest_cause.ensures (λ k. edge_number_cause c.args.edges (slice_index_or c.args.uses.now k 0 / 2)) (λ i r h p. search rules)
