-- The contract of the call `split_boundaries_by_divisor`: one answer and one content of every lent slice for each input. Definitions only.
use Rattle.std.specs.Prelude.{List, ℕ, Float, length, take, Result}
use Rattle.compress.specs.Layout.{store, rows}
use Rattle.compress.specs.declared.Refusal.{Refusal}
use Rattle.compress.specs.Rows.{edge_at, edge_number_layout, edge_float_layout}
use Rattle.compress.specs.Said.{Said, result, refused, cause_or, said_of}
use Rattle.compress.specs.Wires.{uses_of, lengths_of, over}
use Rattle.walk.specs.Walk.{Answer, wires}
use Rattle.split.specs.split_causes.Causes.{Buffers, LentSplit, face_total, rebuilt_total, split_cause}
use Rattle.split.specs.declared.Boundaries.{Boundaries}
use Rattle.split.specs.seams.Seams.{stop_at}
use Rattle.split.specs.Split.{Given, edges_after, split_wires}
use Rattle.walk.specs.Walk as walk

-- what a call leaves: its answer, and the contents of these slices
pub record SplitOutcome : Type 0 where
  pub said : Said Boundaries
  pub buffers : Buffers

-- what a call leaves, as one record
abbrev pub leaves_split : Result Boundaries Refusal → List ℕ → List Float → List ℕ → List ℕ → SplitOutcome
leaves_split r en ef us ls = record { said = said_of (λ b. b) r; buffers = record { en = en; ef = ef; us = us; ls = ls } }

-- the records that lie in the slices
unfoldable pub given_in : LentSplit → Given
given_in l =
    record {
      vertices = l.vertices;
      edges = rows (edge_at l.buffers.en l.buffers.ef) 0 l.edges;
      face = take (face_total l) l.face_uses;
      rebuilt = take (rebuilt_total l) l.rebuilt_uses;
      stops = rows (stop_at l.divisor l.points) 0 l.stops;
      surface = l.surface;
    }

-- ---- the call

-- "on success": the new edges are appended, and the wires with their lengths stand in the fronts of their buffers.
-- "Entries past a result keep what they held." On 11, 12 and 13 nothing is written.
unfoldable pub split_stored : Given → Buffers → List (List ℕ) → SplitOutcome
split_stored g b ws =
    record {
      said = result (record { wires = length ws; uses = length (uses_of ws); edges = length (edges_after g) });
      buffers = record {
        en = store edge_number_layout b.en (edges_after g);
        ef = store edge_float_layout b.ef (edges_after g);
        us = over (uses_of ws) b.us;
        ls = over (lengths_of ws) b.ls;
      };
    }

-- the call is turned away: nothing lent is changed
abbrev pub turned_away : Buffers → ℕ → SplitOutcome
turned_away b n = record { said = refused n; buffers = b }

abbrev pub after_walk : Given → Buffers → Answer → SplitOutcome
after_walk g b (wires ws) = split_stored g b ws
after_walk g b (walk.refused c) = turned_away b c

unfoldable pub split_outcome : LentSplit → SplitOutcome
split_outcome l = cause_or (split_cause l) (turned_away l.buffers) (after_walk (given_in l) l.buffers (split_wires (given_in l)))
