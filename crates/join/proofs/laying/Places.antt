-- What the searches of `find_index` and `find_wire` answer: the first place, or none.
-- Assumes nothing.
use mathlib.Core.Path.{◌≡◌, refl, ap}
use mathlib.Core.Bool.{Bool, true, false, true≢false, false≢true}
use mathlib.Core.List.{List, [], ◌∷◌}
use Prim.Native.Nat.{ℕ, zero, suc, ◌+◌, ◌-◌, ◌*◌, ◌/◌, ◌≤◌, ◌<◌}
use native.Mathlib.Omega.{arith}
use lib.Dec.{eqb, ltb}
use lib.ListN.{length, get_or, take, drop}
use lib.Seq.{get_or-take, length-take-le}
use lib.Ieee.{Float}
use borrow.Author.Tests.{eq-eqb, ne_eqb, lt-ltb, le-ltb, ltb-true, ltb-false}
use Rattle.compress.specs.declared.Edge.{Edge}
use Rattle.compress.specs.Records.{pick, front_at}
use Rattle.compress.specs.Wires.{total}
use Rattle.compress.proofs.Wires.{part_at, part_size}
use Rattle.rows.specs.declared.lent.Wires.{Wires}
use Rattle.rows.specs.Held.{wires_in}
use Rattle.rows.proofs.Each.{all_wires, holds_at}
use Rattle.std.specs.Prelude.{Option, Some, None}
use Rattle.std.specs.List.{AllWithin, HoldsAt}
use Rattle.std.specs.Option.{MatchOption, is_some, unwrap_or}
use Rattle.compress.specs.Said.{Said, result, none, refused}
use Rattle.compress.specs.Rows.{numbers_per_edge, floats_per_edge}
use Rattle.join.specs.laying.Places.{index_of, wire_index_of, found, found_before, place_in, holder_in}
use Rattle.join.specs.laying.Steps.{Readable, Lying}

-- a place is within its wire
pub index_le : (es : ℕ → Edge) (v : ℕ) (w : List ℕ) → index_of es v w ≤ length w
unfolding index_of
index_le es v [] = omega arith
index_le es v (u ∷ us) = step (eqb (front_at es u) v) (index_of es v us) (index_le es v us)
  where
    step : (b : Bool) (k : ℕ) → k ≤ length us → pick b 0 (k + 1) ≤ suc (length us)
    step true k h = omega arith
    step false k h = omega arith

-- a part of uses that can be read can be read
pub part_rows : (en : List ℕ) (ef : List Float) (us : List ℕ) (t from to : ℕ) → to ≤ t → t ≤ length us → Readable en ef (take t us)
    → Readable en ef (take (to - from) (drop from us))
part_rows en ef us t from to h lent r k lt =
    let size : length (take t us) ≡ t = length-take-le t us lent in
    let g : k < to - from = omega (arith, part_size us from to (omega arith)) in
    let b : from + k < t = omega arith in
    rw (part_at 0 us from to k g, ← get_or-take t us (from + k) 0 b) (r (from + k) (omega arith))

-- ---- `find_index`
-- the first use whose front is v stands at the place i
index_first : (es : ℕ → Edge) (v : ℕ) (w : List ℕ) (i : ℕ) → i < length w → front_at es (get_or w i 0) ≡ v
    → ((k : ℕ) → k < i → front_at es (get_or w k 0) ≡ v → ⊥) → index_of es v w ≡ i
unfolding index_of
index_first es v [] i h e n = absurd (omega arith)
index_first es v (u ∷ us) zero h e n = rw (eq-eqb (front_at es u) v e) refl
index_first es v (u ∷ us) (suc i) h e n =
    let r : index_of es v us ≡ i = index_first es v us i (omega arith) e (λ k p. n (suc k) (omega arith)) in
    rw (ne_eqb (front_at es u) v (n 0 (omega arith)), r) (omega arith)

-- no use has the front v
index_past : (es : ℕ → Edge) (v : ℕ) (w : List ℕ) → ((k : ℕ) → k < length w → front_at es (get_or w k 0) ≡ v → ⊥) → index_of es v w ≡ length w
unfolding index_of
index_past es v [] n = refl
index_past es v (u ∷ us) n =
    let r : index_of es v us ≡ length us = index_past es v us (λ k p. n (suc k) (omega arith)) in
    rw (ne_eqb (front_at es u) v (n 0 (omega arith)), r) (omega arith)

module _ (es : ℕ → Edge) (v : ℕ) (w : List ℕ) where
  -- what a search for the first use whose front is v answers
  pub position_found : (r : Option ℕ) → MatchOption r (AllWithin (λ u. front_at es u ≡ v → ⊥) w 0 (length w))
      (λ i. (i < length w) × HoldsAt (λ u. front_at es u ≡ v) w i × AllWithin (λ u. front_at es u ≡ v → ⊥) w 0 i) → found r ≡ place_in es v w
  position_found None h =
      let r : index_of es v w ≡ length w = index_past es v w (λ k p. h k 0 (omega arith) p) in
      rw (le-ltb (index_of es v w) (length w) (omega (arith, r)))
  position_found (Some i) h =
      let r : index_of es v w ≡ i = index_first es v w i h.0 (h.1 0) (λ k p. h.2 k 0 (omega arith) p) in
      rw (r, lt-ltb i (length w) h.0)

-- ---- what a search found
-- 1 above the place, and 0 where there is none
abbrev place_above : Said ℕ → ℕ
place_above (result i) = i + 1
place_above none = 0
place_above (refused n) = 0

pub found_is : {j : ℕ} (end i : ℕ) → found (Some j) ≡ found_before end i → (j ≡ i) × (i < end)
found_is {j} end i = by_test (ltb i end) (ltb-true i end)
  where
    by_test : (b : Bool) → (b ≡ true → i < end) → result j ≡ pick b (result i) none → (j ≡ i) × (i < end)
    by_test true k e = let q : j + 1 ≡ i + 1 = ap place_above e in (omega arith, k refl)
    by_test false k e = let q : j + 1 ≡ 0 = ap place_above e in absurd (omega arith)

pub found_not : (end i : ℕ) → found None ≡ found_before end i → end ≤ i
found_not end i = by_test (ltb i end) (ltb-false i end)
  where
    by_test : (b : Bool) → (b ≡ false → end ≤ i) → none ≡ pick b (result i) none → end ≤ i
    by_test true k e = let q : 0 ≡ i + 1 = ap place_above e in absurd (omega arith)
    by_test false k e = k refl

-- the place, and the end where there is none
pub place_or_end : (es : ℕ → Edge) (v : ℕ) (w : List ℕ) (r : Option ℕ) → found r ≡ place_in es v w → unwrap_or r (length w) ≡ index_of es v w
place_or_end es v w None q = omega (arith, found_not (length w) (index_of es v w) q, index_le es v w)
place_or_end es v w (Some j) q = omega (arith, found_is (length w) (index_of es v w) q)

-- ---- `find_wire`
-- the wire holds v as a front, or has no use that does
abbrev pub Holds : (ℕ → Edge) → ℕ → List ℕ → Type 0
Holds es v w = index_of es v w < length w

abbrev pub Lacks : (ℕ → Edge) → ℕ → List ℕ → Type 0
Lacks es v w = length w ≤ index_of es v w

-- what a search of one wire tells
pub told_holds : (es : ℕ → Edge) (v : ℕ) (w : List ℕ) (r : Option ℕ) → found r ≡ place_in es v w → is_some r ≡ true → Holds es v w
told_holds es v w None q h = absurd (false≢true h)
told_holds es v w (Some x) q h = (found_is (length w) (index_of es v w) q).1

pub told_lacks : (es : ℕ → Edge) (v : ℕ) (w : List ℕ) (r : Option ℕ) → found r ≡ place_in es v w → is_some r ≡ false → Lacks es v w
told_lacks es v w (Some x) q h = absurd (true≢false h)
told_lacks es v w None q h = found_not (length w) (index_of es v w) q

-- a wire ahead of others is the first that holds v, or one place more is counted
next_wire : (es : ℕ → Edge) (v : ℕ) (w : List ℕ) (ws : List (List ℕ))
    → wire_index_of es v (w ∷ ws) ≡ pick (ltb (index_of es v w) (length w)) 0 (wire_index_of es v ws + 1)
unfolding wire_index_of
next_wire es v w ws = refl

-- the first wire that holds v stands at the place i
wire_first : (es : ℕ → Edge) (v : ℕ) (ws : List (List ℕ)) (i : ℕ) → i < length ws → Holds es v (get_or ws i [])
    → ((k : ℕ) → k < i → Lacks es v (get_or ws k [])) → wire_index_of es v ws ≡ i
wire_first es v [] i h e n = absurd (omega arith)
wire_first es v (w ∷ ws) zero h e n = rw (next_wire es v w ws, lt-ltb (index_of es v w) (length w) e) refl
wire_first es v (w ∷ ws) (suc i) h e n =
    let r : wire_index_of es v ws ≡ i = wire_first es v ws i (omega arith) e (λ k p. n (suc k) (omega arith)) in
    rw (next_wire es v w ws, le-ltb (index_of es v w) (length w) (n 0 (omega arith)), r) (omega arith)

-- no wire does
wire_past : (es : ℕ → Edge) (v : ℕ) (ws : List (List ℕ)) → ((k : ℕ) → k < length ws → Lacks es v (get_or ws k [])) → wire_index_of es v ws ≡ length ws
unfolding wire_index_of
wire_past es v [] n = refl
wire_past es v (w ∷ ws) n =
    let r : wire_index_of es v ws ≡ length ws = wire_past es v ws (λ k p. n (suc k) (omega arith)) in
    rw (next_wire es v w ws, le-ltb (index_of es v w) (length w) (n 0 (omega arith)), r) (omega arith)

-- what a search for the first wire that holds v answers
module _ (es : ℕ → Edge) (v : ℕ) (ws : List (List ℕ)) where
  pub holder_found : (r : Option ℕ) → MatchOption r (AllWithin (Lacks es v) ws 0 (length ws))
      (λ i. (i < length ws) × HoldsAt (Holds es v) ws i × AllWithin (Lacks es v) ws 0 i) → found r ≡ holder_in es v ws
  holder_found None h =
      let r : wire_index_of es v ws ≡ length ws = wire_past es v ws (λ k p. h k [] (omega arith) p) in
      rw (le-ltb (wire_index_of es v ws) (length ws) (omega (arith, r)))
  holder_found (Some i) h =
      let r : wire_index_of es v ws ≡ i = wire_first es v ws i h.0 (h.1 []) (λ k p. h.2 k [] (omega arith) p) in
      rw (r, lt-ltb i (length ws) h.0)

-- ---- every wire can be read
abbrev pub RowLent : List ℕ → List Float → ℕ → Type 0
RowLent en ef u = (u / 2 * numbers_per_edge + numbers_per_edge ≤ length en) × (u / 2 * floats_per_edge + floats_per_edge ≤ length ef)

pub wire_rows : (en : List ℕ) (ef : List Float) (w : Wires) → Lying w.uses.now w.lengths.now w.count
    → Readable en ef (take (total (take w.count w.lengths.now)) w.uses.now) → (k : ℕ) → k < length (wires_in w) → Readable en ef (get_or (wires_in w) k [])
wire_rows en ef w L r k h =
    let t = total (take w.count w.lengths.now) in
    let size : length (take t w.uses.now) ≡ t = length-take-le t w.uses.now L.uses in
    let all = all_wires (RowLent en ef) w.uses.now (take w.count w.lengths.now) 1024 L.uses L.few
    (λ j p. rw (get_or-take t w.uses.now j 0 p) at (r j (omega arith))) in
    (holds_at _ (wires_in w) k h all).1
