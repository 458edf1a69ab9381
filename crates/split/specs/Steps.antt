-- What a split asks of the lent buffers, and what it leaves off them after the walk. Definitions only.
use Rattle.std.specs.Prelude.{List, ℕ, ◌+◌, ◌*◌, ◌≤◌, Float, length}
use Rattle.compress.specs.declared.Edge.{Edge}
use Rattle.compress.specs.Layout.{store_from}
use Rattle.compress.specs.Rows.{numbers_per_edge, floats_per_edge, edge_number_layout, edge_float_layout}
use Rattle.compress.specs.Said.{result, refused}
use Rattle.compress.specs.Wires.{uses_of, lengths_of, over}
use Rattle.walk.specs.Walk.{Answer, wires}
use Rattle.split.specs.seams.Seams.{floats_per_pair}
use Rattle.split.specs.split_causes.Causes.{Buffers}
use Rattle.split.specs.Contract.{SplitOutcome}
use Rattle.walk.specs.Walk as walk

-- what a split leaves off the lent slices: the seams in the rows from `edges` on, and the wires that the walk answers
abbrev pub after_lent : Buffers → ℕ → List Edge → Answer → SplitOutcome
after_lent b edges seams (wires ws) =
    record {
      said = result (record { wires = length ws; uses = length (uses_of ws); edges = edges + length seams });
      buffers = record {
        en = store_from edge_number_layout b.en edges seams;
        ef = store_from edge_float_layout b.ef edges seams;
        us = over (uses_of ws) b.us;
        ls = over (lengths_of ws) b.ls;
      };
    }
after_lent b edges seams (walk.refused c) = record { said = refused c; buffers = b }

-- a place for each of the counted uses, in both buffers, and a row for each seam
pub record Roomy (b : Buffers) (edges count pairs : ℕ) (fs : List Float) : Type 0 where
  pub uses : count ≤ length b.us
  pub lengths : count ≤ length b.ls
  pub numbers : (edges + pairs) * numbers_per_edge ≤ length b.en
  pub floats : (edges + pairs) * floats_per_edge ≤ length b.ef
  pub points : pairs * floats_per_pair ≤ length fs
