-- After a split the edge slices with the count told hold the edges lent and the seams, and the buffers the wires of the walk.
-- Assumes nothing.
use mathlib.Core.Path.{◌≡◌, refl}
use mathlib.Core.List.{List}
use Prim.Native.Nat.{ℕ, zero, suc, ◌+◌}
use native.Mathlib.Omega.{arith}
use lib.ListN.{length}
use Rattle.compress.specs.Said.{cause_or, result}
use Rattle.compress.specs.Wires.{uses_of}
use Rattle.compress.proofs.Loading.{edges_read}
use Rattle.compress.proofs.Refused.{refused_never, result_told}
use Rattle.compress.proofs.Room.{edges_room}
use Rattle.compress.proofs.Wires.{wires_stored}
use Rattle.walk.specs.Walk.{Answer, wires}
use Rattle.split.specs.declared.Boundaries.{Boundaries}
use Rattle.split.specs.Split.{edges_after, split_wires}
use Rattle.split.specs.Contract.{given_in, SplitOutcome, split_stored, turned_away, after_walk, split_outcome}
use Rattle.split.specs.split_causes.Causes.{LentSplit, pairs, split_cause}
use Rattle.split.specs.Reading.{SplitRead}
use Rattle.split.proofs.split_causes.Accepted.{split_checked}
use Rattle.split.proofs.Fronts.{length_after}
use Rattle.walk.specs.Walk as walk

module _ (l : LentSplit) (c : Boundaries) where
  stored_read : split_cause l ≡ 0 → (ws : List (List ℕ)) → split_wires (given_in l) ≡ wires ws → (split_stored (given_in l) l.buffers ws).said ≡ result c
      → SplitRead l c (split_stored (given_in l) l.buffers ws)
  unfolding split_stored
  stored_read z ws e p =
      let room = edges_room l.buffers.en l.buffers.ef (l.edges + pairs l) (split_checked l z).room.edges in
      let n = length_after l in
      let q = result_told (record { wires = length ws; uses = length (uses_of ws); edges = length (edges_after (given_in l)) }) c p in
      record {
        edges = rw (← q) (edges_read (edges_after (given_in l)) l.buffers.en l.buffers.ef 0 (rw n (omega arith)) (rw n (omega arith)));
        wires = rw (← q, wires_stored ws l.buffers.us l.buffers.ls) e;
      }

  walked_read : split_cause l ≡ 0 → (a : Answer) → split_wires (given_in l) ≡ a → (after_walk (given_in l) l.buffers a).said ≡ result c
      → SplitRead l c (after_walk (given_in l) l.buffers a)
  walked_read z (wires ws) e p = stored_read z ws e p
  walked_read z (walk.refused n) e p = absurd (refused_never n p)

  by_cause : (k : ℕ) → split_cause l ≡ k → (cause_or k (turned_away l.buffers) (after_walk (given_in l) l.buffers (split_wires (given_in l)))).said ≡ result c
      → SplitRead l c (cause_or k (turned_away l.buffers) (after_walk (given_in l) l.buffers (split_wires (given_in l))))
  by_cause zero z p = walked_read z (split_wires (given_in l)) refl p
  by_cause (suc k) z p = absurd (refused_never (suc k) p)

  outcome_read : (split_outcome l).said ≡ result c → SplitRead l c (split_outcome l)
  unfolding split_outcome
  outcome_read p = by_cause (split_cause l) refl p

  -- a call that leaves o, as its contract says, and tells a result
  pub split_read : (o : SplitOutcome) → o ≡ split_outcome l → o.said ≡ result c → SplitRead l c o
  split_read o e p = rw e (outcome_read (rw e at p))
