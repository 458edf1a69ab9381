use Rattle.std.proofs.Common.{rules, ℕ}
use Rattle.checks.specs.Causes.{vertex_row_cause, vertices_cause}
use Rattle.checks.proofs.tables.vertices.Goals as goal

pub returns : goal.returns
unfolding vertices_cause
returns c =
    let f : ℕ → ℕ = vertex_row_cause c.args.vertices.now.numbers.now c.args.vertices.now.floats.now in
    c.table.ensures f (λ i h p. search rules) (λ i r h p. search rules)
