-- What a split without a cause before the walk is lent: every count within its bounds and what was lent, every number known, and room.
-- Assumes nothing.
use mathlib.Core.Path.{◌≡◌, refl, ◌∙◌}
use mathlib.Core.Bool.{true, false, not}
use mathlib.Core.List.{List, []}
use Prim.Native.Nat.{ℕ, zero, suc, ◌+◌, ◌*◌, ◌/◌, ◌%◌, ◌≤◌, ◌<◌}
use native.Mathlib.Omega.{arith}
use borrow.Author.Tests.{ltb-false, leb-false, eqb-false, not-false}
use lib.Dec.{eqb, leb, ltb}
use lib.Ieee.{Float}
use lib.ListN.{length, get_or, take}
use Rattle.compress.specs.declared.Refusal.{Refusal}
use Rattle.compress.specs.Refusals.{refusal_number}
use Rattle.compress.specs.Shell.{edges_fit}
use Rattle.compress.proofs.Refused.{number_above}
use Rattle.checks.specs.Causes.{when, lowest_of, edges_cause, uses_cause}
use Rattle.checks.proofs.Accepted.{EdgesAccepted, passed_by, passed, not_when, edges_accepted, uses_in}
use Rattle.checks.proofs.Lowest.{lower_none, lowest_none}
use Rattle.split.specs.seams.Seams.{repeats_after}
use Rattle.split.specs.split_causes.Causes.{LentSplit, face_total, rebuilt_total, pairs, split_wires_cause, split_input_cause, split_count, room_cause, split_room_cause, then_cause, split_cause}
use Rattle.split.specs.seams.Stops.{stop_cause, stops_cause, odd_cause, repeat_cause}

pub then_none : (a b : ℕ) → then_cause a b ≡ 0 → (a ≡ 0) × (b ≡ 0)
then_none zero b e = (refl, e)
then_none (suc a) b e = absurd (omega arith)

pub record SplitAccepted (l : LentSplit) : Type 0 where
  pub vertices : l.vertices ≤ 4096
  pub edges : EdgesAccepted l.vertices l.buffers.en l.buffers.ef l.edges
  pub wires : l.face_wires + l.rebuilt_wires ≤ 64
  pub face_lengths : l.face_wires ≤ length l.face_lengths
  pub rebuilt_lengths : l.rebuilt_wires ≤ length l.rebuilt_lengths
  pub few : face_total l + rebuilt_total l ≤ 1024
  pub face_uses : face_total l ≤ length l.face_uses
  pub rebuilt_uses : rebuilt_total l ≤ length l.rebuilt_uses
  pub face_known : (k : ℕ) → k < face_total l → get_or l.face_uses k 0 / 2 < l.edges
  pub rebuilt_known : (k : ℕ) → k < rebuilt_total l → get_or l.rebuilt_uses k 0 / 2 < l.edges
  pub stops_lent : l.stops ≤ length l.divisor
  pub points_lent : l.stops * 2 ≤ length l.points
  pub stops_known : (k : ℕ) → k < l.stops → get_or l.divisor k 0 < l.vertices

stop_known : (v : ℕ) (ds : List ℕ) (fs : List Float) (n k : ℕ) → lowest_of (stop_cause v ds fs) n ≡ 0 → k < n → get_or ds k 0 < v
unfolding stop_cause
stop_known v ds fs n k q h =
    let a = lower_none (when (leb v (get_or ds k 0)) 2) _ (lowest_none (stop_cause v ds fs) n k q h) in
    leb-false v (get_or ds k 0) (not_when (leb v (get_or ds k 0)) 1 a.0)

pub input_accepted : (l : LentSplit) → split_input_cause l ≡ 0 → SplitAccepted l
unfolding split_input_cause split_wires_cause stops_cause
input_accepted l q =
    let a = lower_none (when (ltb 4096 l.vertices) 1) _ q in
    let b = lower_none (edges_cause l.vertices l.buffers.en l.buffers.ef l.edges) _ a.1 in
    let c = lower_none (split_wires_cause l.edges l.face_uses l.face_lengths l.face_wires l.rebuilt_uses l.rebuilt_lengths l.rebuilt_wires) (stops_cause l.vertices l.divisor l.points l.stops) b.1 in
    let w₁ = passed (ltb 64 (l.face_wires + l.rebuilt_wires)) _ c.0 in
    let w₂ = passed (ltb (length l.face_lengths) l.face_wires) _ w₁.1 in
    let w₃ = passed (ltb (length l.rebuilt_lengths) l.rebuilt_wires) _ w₂.1 in
    let w₄ = passed (ltb 1024 (face_total l + rebuilt_total l)) _ w₃.1 in
    let w₅ = passed (ltb (length l.face_uses) (face_total l)) _ w₄.1 in
    let w₆ = passed (ltb (length l.rebuilt_uses) (rebuilt_total l)) _ w₅.1 in
    let u = lower_none (uses_cause l.edges l.face_uses (face_total l)) (uses_cause l.edges l.rebuilt_uses (rebuilt_total l)) w₆.1 in
    let s₁ = passed (ltb (length l.divisor) l.stops) _ c.1 in
    let s₂ = passed (ltb (length l.points) (l.stops * 2)) _ s₁.1 in
    record {
      vertices = ltb-false 4096 l.vertices (not_when (ltb 4096 l.vertices) 0 a.0);
      edges = edges_accepted l.vertices l.buffers.en l.buffers.ef l.edges b.0;
      wires = ltb-false 64 (l.face_wires + l.rebuilt_wires) w₁.0;
      face_lengths = ltb-false (length l.face_lengths) l.face_wires w₂.0;
      rebuilt_lengths = ltb-false (length l.rebuilt_lengths) l.rebuilt_wires w₃.0;
      few = ltb-false 1024 (face_total l + rebuilt_total l) w₄.0;
      face_uses = ltb-false (length l.face_uses) (face_total l) w₅.0;
      rebuilt_uses = ltb-false (length l.rebuilt_uses) (rebuilt_total l) w₆.0;
      face_known = λ k h. uses_in l.edges l.face_uses (face_total l) k u.0 h;
      rebuilt_known = λ k h. uses_in l.edges l.rebuilt_uses (rebuilt_total l) k u.1 h;
      stops_lent = ltb-false (length l.divisor) l.stops s₁.0;
      points_lent = ltb-false (length l.points) (l.stops * 2) s₂.0;
      stops_known = λ k h. stop_known l.vertices l.divisor l.points l.stops k s₂.1 h;
    }

-- room for the counted uses and the new edges, and an even count of vertices on the divisor, none of them twice
pub record SplitRoom (l : LentSplit) : Type 0 where
  pub few : split_count l ≤ 1024
  pub uses : split_count l ≤ length l.buffers.us
  pub lengths : split_count l ≤ length l.buffers.ls
  pub edges : edges_fit l.buffers.en l.buffers.ef (l.edges + pairs l) ≡ true

pub room : (l : LentSplit) → split_room_cause l ≡ 0 → SplitRoom l
unfolding room_cause
room l q =
    let a = passed_by 5 (ltb 1024 (split_count l)) _ q in
    let b = passed_by 5 (ltb (length l.buffers.us) (split_count l)) _ a.1 in
    let c = passed_by 5 (ltb (length l.buffers.ls) (split_count l)) _ b.1 in
    record {
      few = ltb-false 1024 (split_count l) a.0;
      uses = ltb-false (length l.buffers.us) (split_count l) b.0;
      lengths = ltb-false (length l.buffers.ls) (split_count l) c.0;
      edges = not-false _ (not_when (not (edges_fit l.buffers.en l.buffers.ef (l.edges + pairs l))) 5 c.1);
    }

pub record SplitChecked (l : LentSplit) : Type 0 where
  pub accepted : SplitAccepted l
  pub room : SplitRoom l
  pub even : l.stops ≡ pairs l * 2
  pub apart : repeats_after [] (take l.stops l.divisor) ≡ false

pub split_checked : (l : LentSplit) → split_cause l ≡ 0 → SplitChecked l
unfolding split_cause
split_checked l q =
    let a = then_none (split_input_cause l) _ q in
    let b = then_none (split_room_cause l) _ a.1 in
    let c = then_none (odd_cause l.stops) (repeat_cause l.divisor l.stops) b.1 in
    let o : ¬ (l.stops % 2 ≡ 1) = eqb-false (l.stops % 2) 1 (not_when (eqb (l.stops % 2) 1) 8 c.0) in
    record {
      accepted = input_accepted l a.0;
      room = room l b.0;
      even = omega (arith, o);
      apart = not_when (repeats_after [] (take l.stops l.divisor)) 9 c.1;
    }

-- ---- the causes before the walk, in the order in which they are looked for
then_refused : (r : Refusal) (a b : ℕ) → refusal_number r ≡ a → refusal_number r ≡ then_cause a b
then_refused r a b q = let p = number_above r in rw (← q, p.1)

then_next : (a b : ℕ) → 0 ≡ a → b ≡ then_cause a b
then_next a b z = rw (← z)

module _ (l : LentSplit) where
  pub cause_input : (r : Refusal) → refusal_number r ≡ split_input_cause l → refusal_number r ≡ split_cause l
  unfolding split_cause
  cause_input r q = then_refused r (split_input_cause l) _ q

  module _ (a : 0 ≡ split_input_cause l) where
    pub cause_room : (r : Refusal) → refusal_number r ≡ split_room_cause l → refusal_number r ≡ split_cause l
    unfolding split_cause
    cause_room r q = then_refused r (split_room_cause l) _ q ∙ then_next (split_input_cause l) _ a

    module _ (b : 0 ≡ split_room_cause l) where
      pub cause_odd : (r : Refusal) → refusal_number r ≡ odd_cause l.stops → refusal_number r ≡ split_cause l
      unfolding split_cause
      cause_odd r q = then_refused r (odd_cause l.stops) _ q ∙ then_next (split_room_cause l) _ b ∙ then_next (split_input_cause l) _ a

      pub cause_repeat : 0 ≡ odd_cause l.stops → {k : ℕ} → k ≡ repeat_cause l.divisor l.stops → k ≡ split_cause l
      unfolding split_cause
      cause_repeat c q = q ∙ then_next (odd_cause l.stops) _ c ∙ then_next (split_room_cause l) _ b ∙ then_next (split_input_cause l) _ a
