-- The sorting of wires: the numbers gathered so far, and the ways out of the definition.
-- Assumes nothing.
use mathlib.Core.Path.{◌≡◌, refl, ◌∙◌}
use mathlib.Core.Bool.{Bool, true, false, false≢true}
use mathlib.Core.List.{List, [], ◌∷◌, ◌++◌, append-nil}
use Prim.Native.Nat.{ℕ, ◌+◌, ◌-◌, ◌*◌, ◌≤◌, ◌<◌}
use native.Mathlib.Numerals.{add-one}
use native.Mathlib.Omega.{arith}
use borrow.Author.Tests.{eq-eqb, ne_eqb, lt-ltb, le-ltb, ltb-false}
use lib.Dec.{ltb}
use lib.ListN.{length, set, take, drop}
use lib.Seq.{sets, length-sets}
use lib.Ieee.{Float}
use Rattle.compress.specs.declared.Refusal.{Refusal}
use Rattle.compress.specs.Records.{pick}
use Rattle.compress.specs.Refusals.{refusal_number}
use Rattle.compress.specs.Said.{result, none, refused}
use Rattle.compress.proofs.Cells.{take_sets}
use Rattle.compress.proofs.Refused.{number_above}
use Rattle.checks.proofs.Accepted.{passed}
use Rattle.wire_kinds.specs.Kinds.{floats_per_wire, type_at, is_open, is_wanted, wanted_below, sort_cause, unsorted, sort_wires}

-- ---- the numbers gathered from the wires below i
-- into one list: those of the wires that are open, or those of the others, as it is asked, `at` of them
pub record Gathered (fs : List Float) (asked : Bool) (i at : ℕ) (out : List ℕ) : Type 0 where
  pub at_le : at ≤ i
  pub is : take at out ≡ wanted_below fs asked i

-- a turn of one list, which stays as long as it was: the number i goes to its front where it is wanted
pub gathering_turn : (fs : List Float) (asked : Bool) (i at : ℕ) (out : List ℕ) (b : Bool) (at' : ℕ) (out' : List ℕ) → Gathered fs asked i at out
    → (b ≡ true → i < length out) → b ≡ is_wanted fs asked i → at' ≡ at + length (pick b (i ∷ []) []) → out' ≡ sets out at (pick b (i ∷ []) [])
    → Gathered fs asked (i + 1) at' out' × (length out' ≡ length out)
unfolding wanted_below
gathering_turn fs asked i at out true at' out' G h q ea eo =
    let l = G.at_le in
    (record { at_le = omega arith; is = rw (add-one i, eo, ea, take_sets out (i ∷ []) at (omega (arith, h refl)), G.is, ← q) }, rw eo (length-sets out at (i ∷ [])))
gathering_turn fs asked i at out false at' out' G h q ea eo =
    let l = G.at_le in
    let p : at' ≡ at = ea ∙ omega arith in
    (record { at_le = omega arith; is = rw (add-one i, eo, p, ← q, append-nil, G.is) }, rw eo refl)

-- into both lists: those of the open ones, `at` of them, and those of the closed ones
pub record Gathering (fs : List Float) (i at : ℕ) (os cs : List ℕ) : Type 0 where
  pub at_le : at ≤ i
  pub opens : take at os ≡ wanted_below fs true i
  pub closed : take (i - at) cs ≡ wanted_below fs false i

pub gathering_start : (fs : List Float) (os cs : List ℕ) → Gathering fs 0 0 os cs
unfolding wanted_below
gathering_start fs os cs = record { at_le = omega arith; opens = refl; closed = refl }

module _ (fs : List Float) (i at : ℕ) (os cs : List ℕ) (G : Gathering fs i at os cs) where
  in_opens : Gathered fs true i at os
  in_opens = record { at_le = G.at_le; is = G.opens }

  in_closed : Gathered fs false i (i - at) cs
  in_closed = record { at_le = omega arith; is = G.closed }

  pub open_turn : is_open (type_at fs i) ≡ true → i < length os → Gathering fs (i + 1) (at + 1) (set os at i) cs
  unfolding is_wanted
  open_turn o h =
      let l = G.at_le in
      let p : i + 1 - (at + 1) ≡ i - at = omega arith in
      let a = (gathering_turn fs true i at os true (at + 1) (set os at i) in_opens (λ _. h) (rw o refl) refl refl).0 in
      let b = (gathering_turn fs false i (i - at) cs false (i - at) cs in_closed (λ e. absurd (false≢true e)) (rw o refl) (omega arith) refl).0 in
      record { at_le = omega arith; opens = a.is; closed = rw p b.is }

  pub closed_turn : is_open (type_at fs i) ≡ false → i < length cs → Gathering fs (i + 1) at os (set cs (i - at) i)
  unfolding is_wanted
  closed_turn o h =
      let l = G.at_le in
      let p : i + 1 - at ≡ (i - at) + 1 = omega arith in
      let a = (gathering_turn fs true i at os false at os in_opens (λ e. absurd (false≢true e)) (rw o refl) (omega arith) refl).0 in
      let b = (gathering_turn fs false i (i - at) cs true (i - at + 1) (set cs (i - at) i) in_closed (λ _. h) (rw o refl) refl refl).0 in
      record { at_le = omega arith; opens = a.is; closed = rw p b.is }

-- ---- causes
pub sort_accepted : (fs : List Float) (n : ℕ) → sort_cause fs n ≡ 0 → (n ≤ 64) × (n * floats_per_wire ≤ length fs)
unfolding sort_cause
sort_accepted fs n e =
    let a = passed (ltb 64 n) _ e in
    let b = passed (ltb (length fs) (n * floats_per_wire)) _ a.1 in
    (ltb-false 64 n a.0, ltb-false (length fs) (n * floats_per_wire) b.0)

-- ---- the ways out
module _ (fs : List Float) (n : ℕ) (os cs : List ℕ) where
  pub sort_refused : (r : Refusal) → refusal_number r ≡ sort_cause fs n → unsorted (refused (refusal_number r)) os cs ≡ sort_wires fs n os cs
  unfolding sort_wires
  sort_refused r q = let p = number_above r in rw (← q, p.1) refl

  module _ (z : sort_cause fs n ≡ 0) where
    pub sort_none : (k : ℕ) → k ≡ length (wanted_below fs true n) → (k ≡ 2 → ⊥) → unsorted none os cs ≡ sort_wires fs n os cs
    unfolding sort_wires
    sort_none k q ne = rw (z, ← q, ne_eqb k 2 ne)

    pub sort_no_places : (k : ℕ) → k ≡ length (wanted_below fs true n) → k ≡ 2 → length os < 2 → unsorted (refused 6) os cs ≡ sort_wires fs n os cs
    unfolding sort_wires
    sort_no_places k q e h = rw (z, ← q, eq-eqb k 2 e, lt-ltb (length os) 2 h)

    pub sort_no_room : (k m : ℕ) → k ≡ length (wanted_below fs true n) → m ≡ length (wanted_below fs false n) → k ≡ 2 → 2 ≤ length os → length cs < m
        → unsorted (refused 6) os cs ≡ sort_wires fs n os cs
    unfolding sort_wires
    sort_no_room k m q p e h l = rw (z, ← q, ← p, eq-eqb k 2 e, le-ltb (length os) 2 h, lt-ltb (length cs) m l)

    pub sort_done : (k m : ℕ) (found rest : List ℕ) → k ≡ length (wanted_below fs true n) → m ≡ length (wanted_below fs false n) → k ≡ 2 → 2 ≤ length os → m ≤ length cs
        → take k found ≡ wanted_below fs true n → take m rest ≡ wanted_below fs false n
        → unsorted (result m) (take 2 found ++ drop 2 os) (take m rest ++ drop m cs) ≡ sort_wires fs n os cs
    unfolding sort_wires
    sort_done k m found rest q p e h l tf tr =
        let t : take 2 found ≡ wanted_below fs true n = rw e at tf in
        rw (z, ← q, ← p, eq-eqb k 2 e, le-ltb (length os) 2 h, le-ltb (length cs) m l, t, tr, e)
