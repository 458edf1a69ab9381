use Rattle.std.proofs.Common.{rules, ℕ}
use Rattle.checks.specs.Causes.{lower_of, vertex_row_cause, pending_row_cause}
use Rattle.checks.proofs.points.Given.{causes_told, edges_told}
use Rattle.checks.proofs.points.tables_cause.Goals as goal

pub returns-then-are_points : goal.returns-then-are_points
returns-then-are_points c = edges_told _ _ _ _ _ _ c.are_points.ensures c.if-are_points.true c.edges-e.ensures

pub returns : goal.returns
returns c =
    let v = c.args.tables.now.vertices in
    let f : ℕ → ℕ = λ i. lower_of (vertex_row_cause v.numbers.now v.floats.now i) (pending_row_cause v.numbers.now i) in
    causes_told _ _ _ _ _ _ (c.table-v.ensures f (λ i h p. search rules) (λ i r h p. search rules)) c.edges-e.ensures c.lower.ensures
