use Rattle.std.specs.Prelude.{◌≡◌, ◌-◌}
use Rattle.compress.specs.Layout.{rows}
use Rattle.edge_cuts.specs.cuts.Cuts.{cut_at, cuts_in, rising}
use Rattle.edge_cuts.proofs.cuts.EdgeCuts.rises.Given as goal

abbrev pub invariant-loop-i : goal.invariant-loop-i
invariant-loop-i l =
    rising (cuts_in l.self) ≡ rising (rows (cut_at l.self.floats.now) (l.i - 1) (l.self.count - (l.i - 1)))
