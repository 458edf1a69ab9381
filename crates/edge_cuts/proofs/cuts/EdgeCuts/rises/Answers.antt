use Rattle.std.proofs.Common.{sym, ◌∙◌}
use Rattle.edge_cuts.specs.cuts.Cuts.{cut_at}
use Rattle.edge_cuts.proofs.cuts.Rising.{rising_turn, rising_not, rising_done}
use Rattle.edge_cuts.proofs.cuts.EdgeCuts.rises.Goals as goal

pub returns-then-not-below : goal.returns-then-not-below
returns-then-not-below c =
    let t = rw (c.at.ensures, c.at-in-loop-i.ensures) at c.if-not-below.true in
    sym (c.loop-i.invariant ∙ rising_not (cut_at c.args.self.now.floats.now) _ _ c.loop-i.auto.i c.loop-i-test.true t)

pub loop-i-preserved : goal.loop-i-preserved
loop-i-preserved c =
    let t = rw (c.at.ensures, c.at-in-loop-i.ensures) at c.if-not-below.false in
    c.loop-i.invariant ∙ rising_turn (cut_at c.args.self.now.floats.now) _ _ c.loop-i.auto.i c.loop-i-test.true t

pub returns : goal.returns
returns c = sym (c.loop-i.invariant ∙ rising_done (cut_at c.args.self.now.floats.now) _ _ c.loop-i.auto.i c.loop-i-test.false)
