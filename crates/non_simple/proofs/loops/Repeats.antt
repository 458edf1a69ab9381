-- What the search finds: two places of one edge number, in order and inside the wire, and no repeat before the later one.
-- Assumes nothing.
use mathlib.Core.Path.{◌≡◌, refl, ap, sym, ◌∙◌}
use mathlib.Core.List.{List}
use Prim.Native.Nat.{ℕ, zero, suc, ◌+◌, ◌-◌, ◌≤◌, ◌<◌}
use native.Mathlib.Omega.{arith}
use native.Mathlib.Decide.{ℕ_discrete}
use lib.ListN.{length, drop}
use Rattle.std.specs.Prelude.{Option, Some, None}
use Rattle.non_simple.specs.declared.loops.Pair.{Pair}
use Rattle.non_simple.specs.loops.Loop.{nothing, insert, meet, searched, first_repeat}
use Rattle.non_simple.proofs.loops.Search.{number_at, insert_same, insert_other, searched_first, searched_none}

-- no two of the places from `from` up to before i share an edge number
pub record Simple (wire : List ℕ) (from i : ℕ) : Type 0 where
  pub apart : (k m : ℕ) → from ≤ k → k < m → m < i → number_at wire k ≡ number_at wire m → ⊥

-- the places j and i are the first repeat
pub record Found (wire : List ℕ) (from j i : ℕ) : Type 0 where
  pub from_le : from ≤ j
  pub in_order : j < i
  pub inside : i < length wire
  pub same : number_at wire j ≡ number_at wire i
  pub simple : Simple wire from i

-- what holds of an answer
abbrev pub Right : List ℕ → ℕ → Option Pair → Type 0
Right wire from None = Simple wire from (length wire)
Right wire from (Some p) = Found wire from p.earlier p.later

-- the map of the uses passed, which have no repeat
record Passed (wire : List ℕ) (from : ℕ) (map : ℕ → Option ℕ) (i : ℕ) : Type 0 where
  from_le : from ≤ i
  stood : (e j : ℕ) → map e ≡ Some j → (from ≤ j) × (j < i) × (number_at wire j ≡ e)
  new : (k : ℕ) → from ≤ k → k < i → map (number_at wire k) ≡ None → ⊥
  simple : Simple wire from i

module _ (wire : List ℕ) (from : ℕ) where
  passed_start : Passed wire from nothing from
  unfolding nothing
  passed_start =
      record {
        from_le = omega arith;
        stood = λ e j q. absurd (never j q);
        new = λ k a b q. omega arith;
        simple = record { apart = λ k m a b h q. omega arith };
      }
    where
      never : (j : ℕ) → None ≡ Some j → ⊥
      never j q = let z : ◌≡◌ {A = ℕ} 0 1 = cc in omega arith

  module _ (map : ℕ → Option ℕ) (i : ℕ) (P : Passed wire from map i) where
    passed_turn : map (number_at wire i) ≡ None → Passed wire from (insert map (number_at wire i) i) (i + 1)
    passed_turn n =
        record {
          from_le = omega (arith, P.from_le);
          stood = λ e j q. stood_case e j q (ℕ_discrete e (number_at wire i));
          new = λ k a b q. new_case k a b q (ℕ_discrete (number_at wire k) (number_at wire i)) (ℕ_discrete k i);
          simple = record { apart = λ k m a b h q. apart_case k m a b h q (ℕ_discrete m i) };
        }
      where
        stood_case : (e j : ℕ) → insert map (number_at wire i) i e ≡ Some j → Dec (e ≡ number_at wire i) → (from ≤ j) × (j < i + 1) × (number_at wire j ≡ e)
        stood_case e j q (yes s) =
            let t : Some i ≡ Some j = sym (insert_same map (number_at wire i) i e s) ∙ q in
            let p : i ≡ j = cc in
            (omega (arith, P.from_le), omega arith, sym (s ∙ ap (number_at wire) p))
        stood_case e j q (no d) =
            let t = P.stood e j (sym (insert_other map (number_at wire i) i e d) ∙ q) in
            (t.0, omega (arith, t.1), t.2)

        new_case : (k : ℕ) → from ≤ k → k < i + 1 → insert map (number_at wire i) i (number_at wire k) ≡ None → Dec (number_at wire k ≡ number_at wire i) → Dec (k ≡ i) → ⊥
        new_case k a b q (yes s) w =
            let t : Some i ≡ None = sym (insert_same map (number_at wire i) i (number_at wire k) s) ∙ q in
            let z : ◌≡◌ {A = ℕ} 0 1 = cc in
            omega arith
        new_case k a b q (no d) (yes w) = d (ap (number_at wire) w)
        new_case k a b q (no d) (no w) =
            P.new k a (omega (arith, w)) (sym (insert_other map (number_at wire i) i (number_at wire k) d) ∙ q)

        apart_case : (k m : ℕ) → from ≤ k → k < m → m < i + 1 → number_at wire k ≡ number_at wire m → Dec (m ≡ i) → ⊥
        apart_case k m a b h q (yes w) = P.new k a (omega arith) (ap map (q ∙ ap (number_at wire) w) ∙ n)
        apart_case k m a b h q (no w) = P.simple.apart k m a b (omega (arith, w)) q

    passed_found : (j : ℕ) → i < length wire → map (number_at wire i) ≡ Some j → Found wire from j i
    passed_found j lt q =
        let t = P.stood (number_at wire i) j q in
        record { from_le = t.0; in_order = t.1; inside = lt; same = t.2; simple = P.simple }

    -- the search at place i, by where its edge number stood
    at_place : i < length wire → (later : Option Pair) → (map (number_at wire i) ≡ None → Right wire from later)
        → (p : Option ℕ) → map (number_at wire i) ≡ p → Right wire from (meet p i later)
    at_place lt later on None q = on q
    at_place lt later on (Some j) q = passed_found j lt q

  -- the search over the n uses that are left
  right_from : (n : ℕ) (map : ℕ → Option ℕ) (i : ℕ) → i + n ≡ length wire → Passed wire from map i → Right wire from (searched map i (drop i wire))
  right_from zero map i e P =
      let p : i ≡ length wire = omega arith in
      rw (searched_none map i wire (omega arith)) (rw p at P.simple)
  right_from (suc n) map i e P =
      let lt : i < length wire = omega arith in
      rw (searched_first map i wire lt)
      (at_place map i P lt _ (λ q. right_from n (insert map (number_at wire i) i) (i + 1) (omega arith) (passed_turn map i P q)) (map (number_at wire i)) refl)

  -- every answer of the search is right
  pub right : from ≤ length wire → Right wire from (first_repeat from wire)
  unfolding first_repeat
  right h = right_from (length wire - from) nothing from (omega arith) passed_start

  pub pair_found : (p : Pair) → from ≤ length wire → Some p ≡ first_repeat from wire → Found wire from p.earlier p.later
  pair_found p h q = rw (← q) at (right h)

  -- where the two places of a pair lie
  pub pair_in : (p : Pair) → from ≤ length wire → Some p ≡ first_repeat from wire → (from ≤ p.earlier) × (p.earlier < p.later) × (p.later < length wire)
  pair_in p h q = let f = pair_found p h q in (f.from_le, f.in_order, f.inside)

  pub none_found : from ≤ length wire → first_repeat from wire ≡ None → Simple wire from (length wire)
  none_found h q = rw q at (right h)
