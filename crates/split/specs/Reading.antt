-- What a later call reads of what a split left. Definitions only.
use Rattle.std.specs.Prelude.{◌≡◌, take}
use Rattle.compress.specs.Layout.{rows}
use Rattle.compress.specs.Rows.{edge_at}
use Rattle.compress.specs.Wires.{wires_of}
use Rattle.split.specs.declared.Boundaries.{Boundaries}
use Rattle.split.specs.Split.{edges_after, split_wires}
use Rattle.split.specs.Contract.{given_in, SplitOutcome}
use Rattle.split.specs.split_causes.Causes.{LentSplit}
use Rattle.walk.specs.Walk as walk

-- where the split of l told c and left o
pub record SplitRead (l : LentSplit) (c : Boundaries) (o : SplitOutcome) : Type 0 where
  -- the edges told are those lent, and the seams behind them
  pub edges : rows (edge_at o.buffers.en o.buffers.ef) 0 c.edges ≡ edges_after (given_in l)
  -- and the wires told are those of the walk
  pub wires : split_wires (given_in l) ≡ walk.wires (wires_of o.buffers.us (take c.wires o.buffers.ls))
