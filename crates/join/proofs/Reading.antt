-- After a join the uses and the lengths hold the new wires with the joined one among them.
-- Assumes nothing.
use mathlib.Core.Path.{◌≡◌, refl, subst, ◌∙◌}
use mathlib.Core.Bool.{Bool, true, false}
use mathlib.Core.List.{List}
use Prim.Native.Nat.{ℕ, zero, suc, ◌+◌}
use lib.ListN.{length, take}
use Rattle.compress.specs.Records.{pick}
use Rattle.compress.specs.Rows.{edge_at}
use Rattle.compress.specs.Said.{Said, result, none, refused, refused_or}
use Rattle.compress.specs.Shell.{uses_fit}
use Rattle.compress.specs.Wires.{wires_of, uses_of, lengths_of, over}
use Rattle.compress.proofs.Refused.{refused_never, none_never}
use Rattle.compress.proofs.Wires.{wires_stored, wire_count}
use Rattle.join.specs.joined.Outcome.{JoinOutcome, wires_left, stored_in, join_leaves}
use Rattle.join.specs.Contract.{LentJoin, join_cause, joined_in, join_outcome}
use Rattle.join.proofs.Accepted.{causes_none, wires_passed}
use Rattle.join.proofs.Laws.{ReplacesOne, connected_replaces}

module _ (l : LentJoin) (t : ℕ) where
  abbrev us : List ℕ
  us = l.us

  abbrev ls : List ℕ
  ls = l.ls

  abbrev k : ℕ
  k = l.wires

  abbrev joined : Said (List (List ℕ))
  joined = joined_in l

  stored_read : (ws : List (List ℕ)) → length ws ≡ k → (stored_in us ls ws).said ≡ result t → wires_left k (stored_in us ls ws) ≡ ws
  unfolding stored_in
  stored_read ws w p = by_test (uses_fit us (length (uses_of ws))) p
    where
      room : JoinOutcome
      room = record { said = result (length (uses_of ws)); us = over (uses_of ws) us; ls = over (lengths_of ws) ls }

      full : JoinOutcome
      full = record { said = refused 6; us = us; ls = ls }

      by_test : (b : Bool) → (pick b room full).said ≡ result t → wires_left k (pick b room full) ≡ ws
      by_test true p = rw (← w) (wires_stored ws us ls)
      by_test false p = absurd (refused_never 6 p)

  module _ (z : join_cause l ≡ 0) where
    as_many : (ws : List (List ℕ)) → joined ≡ result ws → length ws ≡ k
    as_many ws q =
        let es = edge_at l.en l.ef in
        let first = take l.first_count l.first in
        let second = take l.second_count l.second in
        let new = wires_of us (take k ls) in
        let W = wires_passed l.edges l.first l.first_count l.second l.second_count us ls k (causes_none l z).1 in
        let R = subst (ReplacesOne es l.v0 (length first + length second) new) q (connected_replaces es l.v0 l.v1 first second new) in
        R.count ∙ wire_count us ls k W.lengths

    said_read : (s : Said (List (List ℕ))) → joined ≡ s → (join_leaves us ls s).said ≡ result t → joined ≡ result (wires_left k (join_leaves us ls s))
    said_read (result ws) q p = rw (stored_read ws (as_many ws q) p) q
    said_read none q p = absurd (none_never p)
    said_read (refused c) q p = absurd (refused_never c p)

  by_cause : (c : ℕ) → join_cause l ≡ c → (join_leaves us ls (refused_or c joined)).said ≡ result t
      → joined ≡ result (wires_left k (join_leaves us ls (refused_or c joined)))
  by_cause zero z p = said_read z joined refl p
  by_cause (suc c) z p = absurd (refused_never (suc c) p)

  outcome_read : (join_outcome l).said ≡ result t → joined ≡ result (wires_left k (join_outcome l))
  unfolding join_outcome
  outcome_read p = by_cause (join_cause l) refl p

  -- a call that leaves o, as its contract says, and tells a result: the join is of the k wires that lie in the slices
  pub join_read : (o : JoinOutcome) → o ≡ join_outcome l → o.said ≡ result t → joined ≡ result (wires_left k o)
  join_read o q p = rw q (outcome_read (rw q at p))
