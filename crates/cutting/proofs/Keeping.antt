-- Wires mended by the map of cut edges: where each edge is as it was or has its two halves, connected wires stay connected, and closed ones
-- closed. One law for every call that cuts edges in two. Assumes nothing.
use mathlib.Core.Path.{◌≡◌, refl, ap, sym, ◌∙◌}
use mathlib.Core.Bool.{Bool, true, false}
use mathlib.Core.List.{List, [], ◌∷◌, ◌++◌}
use Prim.Native.Nat.{ℕ, zero, suc, ◌+◌, ◌*◌, ◌/◌, ◌%◌, ◌≤◌, ◌<◌}
use native.Mathlib.Omega.{arith}
use borrow.Author.Tests.{eq-eqb, ne_eqb}
use lib.Ieee.{Float}
use lib.ListN.{length, get_or, take, drop, length-drop}
use lib.Seq.{get_or-take, get_or-drop, length-take-le}
use Rattle.std.specs.Prelude.{Option, Some, None}
use Rattle.compress.specs.declared.Edge.{Edge}
use Rattle.compress.specs.Records.{forward, front_of, back_of, front_at, back_at}
use Rattle.compress.specs.Rows.{edge_at}
use Rattle.compress.specs.Shell.{Shell, load}
use Rattle.compress.specs.Wires.{total, wires_of}
use Rattle.compress.proofs.Layouts.{length_rows}
use Rattle.rows.specs.wires.Connected.{replaced}
use Rattle.rows.proofs.wires.Replaced.{Leads, leads_one, leads_two, replaced_connected, replaced_closed}
use Rattle.cutting.specs.mending.Replace.{replace_use, replace_edges, replace_wires}
use Rattle.cutting.specs.Keeps.{edge_in, wire_in, UsesKnown, Keeps}
use Rattle.cutting.specs.Contract.{lent_of, input_cause}
use Rattle.cutting.proofs.Outcome.{accepted}

-- `replace_edges` is a replacement of each use
pub edges_replaced : (added : List (Option ℕ)) (w : List ℕ) → replace_edges added w ≡ replaced (λ u. replace_use u (get_or added (u / 2) None)) w
unfolding replace_edges replaced
edges_replaced added [] = refl
edges_replaced added (u ∷ us) = ap (λ (l : List ℕ). replace_use u (get_or added (u / 2) None) ++ l) (edges_replaced added us)

pub wire_replaced : (added : List (Option ℕ)) (ws : List (List ℕ)) (k : ℕ) → get_or (replace_wires added ws) k [] ≡ replace_edges added (get_or ws k [])
unfolding replace_wires replace_edges
wire_replaced added [] k = refl
wire_replaced added (w ∷ ws) zero = refl
wire_replaced added (w ∷ ws) (suc k) = wire_replaced added ws k

-- ---- front and back by direction
module _ (es : ℕ → Edge) (u : ℕ) where
  front_forward : forward u ≡ true → front_at es u ≡ (es (u / 2)).front
  unfolding front_at front_of
  front_forward p = rw p

  front_reversed : forward u ≡ false → front_at es u ≡ (es (u / 2)).back
  unfolding front_at front_of
  front_reversed p = rw p

  back_forward : forward u ≡ true → back_at es u ≡ (es (u / 2)).back
  unfolding back_at back_of
  back_forward p = rw p

  back_reversed : forward u ≡ false → back_at es u ≡ (es (u / 2)).front
  unfolding back_at back_of
  back_reversed p = rw p

-- the two uses of edge m
module _ (es : ℕ → Edge) (m : ℕ) where
  half : m * 2 / 2 ≡ m
  half = omega arith

  half_reversed : (m * 2 + 1) / 2 ≡ m
  half_reversed = omega arith

  even : forward (m * 2) ≡ true
  even = eq-eqb (m * 2 % 2) 0 (omega arith)

  odd : forward (m * 2 + 1) ≡ false
  odd = ne_eqb ((m * 2 + 1) % 2) 0 (λ (p : (m * 2 + 1) % 2 ≡ 0). omega arith)

  pub front_first : front_at es (m * 2) ≡ (es m).front
  front_first = front_forward es (m * 2) even ∙ rw half

  pub back_first : back_at es (m * 2) ≡ (es m).back
  back_first = back_forward es (m * 2) even ∙ rw half

  pub front_second : front_at es (m * 2 + 1) ≡ (es m).back
  front_second = front_reversed es (m * 2 + 1) odd ∙ rw half_reversed

  pub back_second : back_at es (m * 2 + 1) ≡ (es m).front
  back_second = back_reversed es (m * 2 + 1) odd ∙ rw half_reversed

-- Of n edges, each that the map does not name has its ends as before, and each that it names has its two halves; and each edge, and each half, has the
-- preparation that the edge had: `es` before, `es'` after.
pub record Halved (added : List (Option ℕ)) (n : ℕ) (es es' : ℕ → Edge) : Type 0 where
  pub kept : (i : ℕ) → i < n → get_or added i None ≡ None → ((es' i).front ≡ (es i).front) × ((es' i).back ≡ (es i).back)
  pub cut : (i m : ℕ) → i < n → get_or added i None ≡ Some m
      → ((es' i).front ≡ (es i).front) × ((es' i).back ≡ (es' m).front) × ((es' m).back ≡ (es i).back)
  pub old : (i : ℕ) → i < n → (es' i).preparation ≡ (es i).preparation
  pub piece : (i m : ℕ) → i < n → get_or added i None ≡ Some m → (es' m).preparation ≡ (es i).preparation

module _ (added : List (Option ℕ)) (n : ℕ) (es es' : ℕ → Edge) (H : Halved added n es es') where
  -- what stands for a use leads from its front to its back
  use_leads : (u : ℕ) → u / 2 < n → Leads (front_at es') (back_at es') (front_at es u) (replace_use u (get_or added (u / 2) None)) (back_at es u)
  unfolding replace_use
  use_leads u lt = by (get_or added (u / 2) None) (forward u) refl refl
    where
      by : (o : Option ℕ) (f : Bool) → get_or added (u / 2) None ≡ o → forward u ≡ f
          → Leads (front_at es') (back_at es') (front_at es u) (replace_use u o) (back_at es u)
      by None true p q =
          let h = H.kept (u / 2) lt p in
          let a : front_at es' u ≡ front_at es u = front_forward es' u q ∙ h.0 ∙ sym (front_forward es u q) in
          let z : back_at es' u ≡ back_at es u = back_forward es' u q ∙ h.1 ∙ sym (back_forward es u q) in
          rw (← a, ← z) (leads_one (front_at es') (back_at es') u)
      by None false p q =
          let h = H.kept (u / 2) lt p in
          let a : front_at es' u ≡ front_at es u = front_reversed es' u q ∙ h.1 ∙ sym (front_reversed es u q) in
          let z : back_at es' u ≡ back_at es u = back_reversed es' u q ∙ h.0 ∙ sym (back_reversed es u q) in
          rw (← a, ← z) (leads_one (front_at es') (back_at es') u)
      by (Some m) true p q =
          let h = H.cut (u / 2) m lt p in
          rw q (leads_two (front_at es') (back_at es') u (m * 2) (front_at es u) (back_at es u)
          (front_forward es' u q ∙ h.0 ∙ sym (front_forward es u q))
          (back_forward es' u q ∙ h.1 ∙ sym (front_first es' m))
          (back_first es' m ∙ h.2 ∙ sym (back_forward es u q)))
      by (Some m) false p q =
          let h = H.cut (u / 2) m lt p in
          rw q (leads_two (front_at es') (back_at es') (m * 2 + 1) u (front_at es u) (back_at es u)
          (front_second es' m ∙ h.2 ∙ sym (front_reversed es u q))
          (back_second es' m ∙ sym h.1 ∙ sym (front_reversed es' u q))
          (back_reversed es' u q ∙ h.0 ∙ sym (back_reversed es u q)))

-- a shell whose edges are halved and whose wires are mended by the map
pub keeps : (d : Edge) (s after : Shell) (added : List (Option ℕ)) → UsesKnown s → Halved added (length s.edges) (edge_in d s) (edge_in d after)
    → after.wires ≡ replace_wires added s.wires → Keeps d s after
unfolding UsesKnown
keeps d s after added known H q =
    let es = edge_in d s in
    let es' = edge_in d after in
    let n = length s.edges in
    let r : ℕ → List ℕ = λ u. replace_use u (get_or added (u / 2) None) in
    let is : (k : ℕ) → wire_in after k ≡ replaced r (wire_in s k)
    = λ k. rw q (wire_replaced added s.wires k ∙ edges_replaced added (wire_in s k)) in
    record {
      connected = λ k c.
          rw (is k) (replaced_connected (front_at es) (back_at es) (front_at es') (back_at es') r (λ u. u / 2 < n) (use_leads added n es es' H) (wire_in s k) (known k) c);
      closed = λ k c.
          rw (is k) (replaced_closed (front_at es) (back_at es) (front_at es') (back_at es') r (λ u. u / 2 < n) (use_leads added n es es' H) (wire_in s k) (known k) c);
    }

-- ---- of a call: what was lent has none of the causes 1 to 5

wires_known : (n : ℕ) (us ls : List ℕ) (k j : ℕ) → total ls ≤ length us → ((a : ℕ) → a < total ls → get_or us a 0 / 2 < n)
    → j < length (get_or (wires_of us ls) k []) → get_or (get_or (wires_of us ls) k []) j 0 / 2 < n
unfolding wires_of total
wires_known n us [] k j fits known h = absurd (none h)
  where
    none : j < 0 → ⊥
    none g = omega arith
wires_known n us (m ∷ ls) zero j fits known h =
    let l : length (take m us) ≡ m = length-take-le m us (omega arith) in
    rw (get_or-take m us j 0 (omega arith)) (known j (omega arith))
wires_known n us (m ∷ ls) (suc k) j fits known h =
    wires_known n (drop m us) ls k j (rw length-drop (omega arith)) (λ a lt. rw get_or-drop (known (m + a) (omega arith))) h

module _ (vn : List ℕ) (vf : List Float) (en : List ℕ) (ef : List Float) (us ls : List ℕ) (v e w : ℕ) (z : input_cause (lent_of vn vf en ef us ls v e w) ≡ 0) where
  pub lent_known : UsesKnown (load (lent_of vn vf en ef us ls v e w))
  unfolding UsesKnown load
  lent_known =
      let A = accepted vn vf en ef us ls v e w z in
      λ k j h. rw (length_rows (edge_at en ef) 0 e) (wires_known e us (take w ls) k j A.wires.uses A.wires.edges h)
