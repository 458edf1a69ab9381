use Rattle.checks.proofs.Lowest.{lowest_start, lowest_turn}
use Rattle.checks.proofs.lowest_cause.Goals as goal

pub loop-i-init : goal.loop-i-init
loop-i-init g c = λ f h. lowest_start f

pub loop-i-preserved : goal.loop-i-preserved
loop-i-preserved g c = λ f h. lowest_turn f _ _ _ _ (c.loop-i.invariant f h) (h _ _ c.loop-i-test.true c.row.ensures) c.lower-least.ensures
