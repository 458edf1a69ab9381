use Rattle.std.proofs.Common.{rules, ℕ}
use Rattle.checks.specs.Causes.{edge_row_cause, edges_cause}
use Rattle.checks.proofs.Sound.{narrow_le}
use Rattle.checks.proofs.tables.edges.Goals as goal

pub returns : goal.returns
unfolding edges_cause
returns c =
    let a = c.args in
    let f : ℕ → ℕ = edge_row_cause a.vertices a.edges.now.numbers.now a.edges.now.floats.now in
    c.table.ensures f (λ i h p. search (rules, narrow_le a.vertices c.narrow-bound.result c.narrow-bound.ensures)) (λ i r h p. search rules)
