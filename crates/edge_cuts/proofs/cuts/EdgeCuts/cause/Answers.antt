use Rattle.std.proofs.Common.{rules, ℕ, ◌*◌, ◌≤◌, ◌<◌, length, arith}
use borrow.Author.Tests.{lt-ltb, le-ltb}
use Rattle.edge_cuts.specs.cuts.Cuts.{floats_per_cut, cut_at, cut_cause, cuts_cause}
use Rattle.edge_cuts.proofs.cuts.EdgeCuts.cause.Goals as goal

pub returns-then-self : goal.returns-then-self
unfolding cuts_cause
returns-then-self c =
    let h : length c.args.self.now.floats.now < c.args.self.now.count * floats_per_cut = omega arith in
    simp (lt-ltb _ _ h)

pub returns : goal.returns
unfolding cuts_cause
returns c =
    let h : c.args.self.now.count * floats_per_cut ≤ length c.args.self.now.floats.now = omega arith in
    simp (le-ltb _ _ h)
    (c.lowest_cause.ensures (λ (k : ℕ). cut_cause c.args.t0 c.args.t1 (cut_at c.args.self.now.floats.now k)) (λ i r g p. search rules))
