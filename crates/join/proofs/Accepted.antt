-- What an input of a join without a cause is, and the two ways out of its checks.
-- Assumes nothing.
use mathlib.Core.Path.{◌≡◌, ap, ◌∙◌}
use mathlib.Core.List.{List}
use Prim.Native.Nat.{ℕ, ◌+◌, ◌≤◌, ◌<◌}
use native.Mathlib.Omega.{arith}
use borrow.Author.Tests.{ltb-false, eqb-false}
use lib.Dec.{eqb, ltb}
use lib.ListN.{length, take}
use lib.Seq.{get_or-take, length-take-le}
use lib.Ieee.{Float}
use Rattle.compress.specs.Rows.{edge_at}
use Rattle.compress.specs.Wires.{total}
use Rattle.checks.specs.Causes.{when, count_cause, vertex_number_cause, edges_cause, uses_cause}
use Rattle.checks.proofs.Accepted.{EdgesAccepted, passed, not_when, edges_accepted, uses_in}
use Rattle.checks.proofs.Lowest.{lower_none}
use Rattle.std.specs.Prelude.{Err}
use Rattle.compress.specs.declared.Refusal.{Refusal}
use Rattle.compress.specs.declared.Edge.{Edge}
use Rattle.rows.specs.Held.{wires_held}
use Rattle.rows.specs.declared.tables.Table.{Table}
use Rattle.rows.specs.declared.lent.WiresMut.{WiresMut}
use Rattle.rows.specs.declared.lent.Stretch.{Stretch}
use Rattle.compress.specs.Refusals.{refusal_number}
use Rattle.compress.proofs.Refused.{said_refused, said_checked}
use Rattle.join.specs.Contract.{LentJoin, join_wires_cause, empty_cause, join_cause, join_outcome}
use Rattle.join.specs.Lent.{lent_mut}
use Rattle.join.specs.Join.{connected}
use Rattle.join.specs.joined.Outcome.{JoinOutcome, left, left_by}
use Rattle.join.specs.laying.Steps.{Readable}
use Rattle.join.specs.joined.Steps.{Joinable}

-- uses without a cause
uses_rows : (v : ℕ) (en : List ℕ) (ef : List Float) (e : ℕ) (us : List ℕ) (n : ℕ) → EdgesAccepted v en ef e → n ≤ length us → uses_cause e us n ≡ 0
    → Readable en ef (take n us)
uses_rows v en ef e us n A h q k lt =
    let g : k < n = omega (arith, length-take-le n us h) in
    let u = uses_in e us n k q g in
    rw (get_or-take n us k 0 g) (omega (arith, A.numbers), omega (arith, A.floats))

-- ---- no cause
pub causes_none : (l : LentJoin) → join_cause l ≡ 0
    → (edges_cause l.vertices l.en l.ef l.edges ≡ 0)
    × (join_wires_cause l.edges l.first l.first_count l.second l.second_count l.us l.ls l.wires ≡ 0)
    × (empty_cause l.first_count l.second_count ≡ 0)
unfolding join_cause
causes_none l q =
    let c₁ = lower_none (count_cause 4096 l.vertices) _ q in
    let c₂ = lower_none (edges_cause l.vertices l.en l.ef l.edges) _ c₁.1 in
    let c₃ = lower_none (vertex_number_cause l.vertices l.v0) _ c₂.1 in
    let c₄ = lower_none (vertex_number_cause l.vertices l.v1) _ c₃.1 in
    let c₅ = lower_none (join_wires_cause l.edges l.first l.first_count l.second l.second_count l.us l.ls l.wires) _ c₄.1 in
    (c₂.0, c₅.0, c₅.1)

-- wires without a cause: e edges, two open wires of n and m uses, and k new ones
pub record WiresPassed (e : ℕ) (a : List ℕ) (n : ℕ) (b : List ℕ) (m : ℕ) (us ls : List ℕ) (k : ℕ) : Type 0 where
  pub wires : k + 2 ≤ 64
  pub lengths : k ≤ length ls
  pub first : n ≤ length a
  pub second : m ≤ length b
  pub few : n + m + total (take k ls) ≤ 1024
  pub uses : total (take k ls) ≤ length us
  pub first_known : uses_cause e a n ≡ 0
  pub second_known : uses_cause e b m ≡ 0
  pub new_known : uses_cause e us (total (take k ls)) ≡ 0

pub wires_passed : (e : ℕ) (a : List ℕ) (n : ℕ) (b : List ℕ) (m : ℕ) (us ls : List ℕ) (k : ℕ) → join_wires_cause e a n b m us ls k ≡ 0
    → WiresPassed e a n b m us ls k
unfolding join_wires_cause
wires_passed e a n b m us ls k q =
    let t = total (take k ls) in
    let w₁ = passed (ltb 64 (k + 2)) _ q in
    let w₂ = passed (ltb (length ls) k) _ w₁.1 in
    let w₃ = passed (ltb (length a) n) _ w₂.1 in
    let w₄ = passed (ltb (length b) m) _ w₃.1 in
    let w₅ = passed (ltb 1024 (n + m + t)) _ w₄.1 in
    let w₆ = passed (ltb (length us) t) _ w₅.1 in
    let u₁ = lower_none (uses_cause e a n) _ w₆.1 in
    let u₂ = lower_none (uses_cause e b m) (uses_cause e us t) u₁.1 in
    record {
      wires = ltb-false 64 (k + 2) w₁.0;
      lengths = ltb-false (length ls) k w₂.0;
      first = ltb-false (length a) n w₃.0;
      second = ltb-false (length b) m w₄.0;
      few = ltb-false 1024 (n + m + t) w₅.0;
      uses = ltb-false (length us) t w₆.0;
      first_known = u₁.0;
      second_known = u₂.0;
      new_known = u₂.1;
    }

module _ (edges : Table Edge) (first second : Stretch) (w : WiresMut) (v v0 v1 : ℕ) where
  abbrev en : List ℕ
  en = edges.numbers.now

  abbrev ef : List Float
  ef = edges.floats.now

  abbrev e : ℕ
  e = edges.count

  abbrev a : List ℕ
  a = first.uses.now

  abbrev n : ℕ
  n = first.count

  abbrev b : List ℕ
  b = second.uses.now

  abbrev m : ℕ
  m = second.count

  abbrev us : List ℕ
  us = w.uses.now

  abbrev ls : List ℕ
  ls = w.lengths.now

  abbrev k : ℕ
  k = w.count

  abbrev given : LentJoin
  given = lent_mut v edges first second w v0 v1

  pub record JoinAccepted : Type 0 where
    pub first_size : length (take n a) ≡ n
    pub second_size : length (take m b) ≡ m
    pub first_some : 0 < length (take n a)
    pub second_some : 0 < length (take m b)
    pub joinable : Joinable edges (take n a) (take m b) w

  pub join_accepted : join_cause given ≡ 0 → JoinAccepted
  unfolding empty_cause
  join_accepted q =
      let t = total (take k ls) in
      let z = causes_none given q in
      let x = lower_none (when (eqb n 0) 15) (when (eqb m 0) 15) z.2 in
      let W = wires_passed e a n b m us ls k z.1 in
      let A = edges_accepted v en ef e z.0 in
      let all : n + m + t ≤ 1024 = W.few in
      let la : length (take n a) ≡ n = length-take-le n a W.first in
      let lb : length (take m b) ≡ m = length-take-le m b W.second in
      let na : n ≡ 0 → ⊥ = eqb-false n 0 (not_when (eqb n 0) 14 x.0) in
      let nb : m ≡ 0 → ⊥ = eqb-false m 0 (not_when (eqb m 0) 14 x.1) in
      record {
        first_size = la;
        second_size = lb;
        first_some = omega (arith, na);
        second_some = omega (arith, nb);
        joinable = record {
          lies = record { wires = omega (arith, W.wires); lengths = W.lengths; few = omega arith; uses = W.uses };
          few = omega arith;
          first_rows = uses_rows v en ef e a n A W.first W.first_known;
          second_rows = uses_rows v en ef e b m A W.second W.second_known;
          rows = uses_rows v en ef e us t A W.uses W.new_known;
        };
      }

  -- the call: a refusal leaves the wires as they were, and without one it leaves what the join of the open wires leaves
  pub join_refused : (r : Refusal) → refusal_number r ≡ join_cause given → left (Err r) w ≡ join_outcome given
  unfolding join_outcome
  join_refused r q = ap (left_by w) (said_refused r _ _ q)

  pub join_told : {o : JoinOutcome} → 0 ≡ join_cause given
      → o ≡ left_by w (connected (edge_at en ef) v0 v1 (take n a) (take m b) (wires_held w)) → o ≡ join_outcome given
  unfolding join_outcome
  join_told q t = t ∙ ap (left_by w) (said_checked _ _ q)
