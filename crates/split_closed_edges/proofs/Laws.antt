-- The closed-edge pass, wherever it cuts a curve: connected wires stay connected, and closed ones closed. Assumes nothing.
use mathlib.Core.Path.{◌≡◌, refl, ap, sym, ◌∙◌}
use mathlib.Core.Bool.{Bool, true, false}
use mathlib.Core.List.{List, [], ◌∷◌, ◌++◌}
use Prim.Native.Nat.{ℕ, zero, suc, ◌+◌, ◌<◌}
use native.Mathlib.Omega.{arith}
use lib.Ieee.{Float}
use lib.ListN.{length, get_or, get_or-append}
use lib.Seq.{get_or-append-add}
use Rattle.std.specs.Prelude.{Option, Some, None}
use Rattle.compress.specs.declared.Curve.{Curve}
use Rattle.compress.specs.declared.Edge.{Edge}
use Rattle.compress.specs.Records.{closed}
use Rattle.compress.specs.Shell.{Shell, load}
use Rattle.cutting.specs.cut_edge.Cut.{halves_of}
use Rattle.split_closed_edges.specs.add_edges.Add.{next, kept_edges, new_edges, added_to}
use Rattle.split_closed_edges.specs.Pass.{split_closed_edges}
use Rattle.cutting.specs.Keeps.{edge_in, UsesKnown, Keeps}
use Rattle.cutting.specs.Contract.{lent_of, input_cause}
use Rattle.split_closed_edges.proofs.add_edges.Edges.{length_kept}
use Rattle.cutting.proofs.Keeping.{Halved, keeps, lent_known}

-- Edge k of es, where n is the next free vertex number and m the next free edge number: it stands as it did, or it has its halves, and its
-- second half is number j among the new ones.
pub data Fate (at : Curve → Float) (d : Edge) (es : List Edge) (n m k : ℕ) : Type 0 where
  stays : get_or (added_to m es) k None ≡ None → get_or (kept_edges at n es) k d ≡ get_or es k d → Fate at d es n m k
  halved : (j : ℕ) → get_or (added_to m es) k None ≡ Some (m + j)
      → get_or (kept_edges at n es) k d ≡ (halves_of (get_or es k d) (at (get_or es k d).curve) (n + j)).old
      → get_or (new_edges at n es) j d ≡ (halves_of (get_or es k d) (at (get_or es k d).curve) (n + j)).new → Fate at d es n m k

module _ (at : Curve → Float) (d e : Edge) (es : List Edge) (n m : ℕ) where
  fate_here : (b : Bool) → b ≡ closed e → Fate at d (e ∷ es) n m 0
  unfolding added_to kept_edges new_edges
  fate_here true q =
      let p : ◌≡◌ {A = Option ℕ} (Some m) (Some (m + 0)) = ap Some (omega arith) in
      let r : n + 0 ≡ n = omega arith in
      halved 0 (rw (← q) p) (rw (← q, r)) (rw (← q, r))
  fate_here false q = stays (rw (← q)) (rw (← q))

  fate_there : (b : Bool) (k : ℕ) → b ≡ closed e → Fate at d es (next b n) (next b m) k → Fate at d (e ∷ es) n m (suc k)
  unfolding added_to kept_edges new_edges
  fate_there true k q (stays p r) = stays (rw (← q) p) (rw (← q) r)
  fate_there true k q (halved j p r t) =
      let x : ◌≡◌ {A = Option ℕ} (Some (m + 1 + j)) (Some (m + suc j)) = ap Some (omega arith) in
      let y : n + 1 + j ≡ n + suc j = omega arith in
      halved (suc j) (rw (← q) (p ∙ x)) (rw (← q, ← y) r) (rw (← q, ← y) t)
  fate_there false k q (stays p r) = stays (rw (← q) p) (rw (← q) r)
  fate_there false k q (halved j p r t) = halved j (rw (← q) p) (rw (← q) r) (rw (← q) t)

pub fate : (at : Curve → Float) (d : Edge) (es : List Edge) (n m k : ℕ) → k < length es → Fate at d es n m k
fate at d [] n m k lt = absurd (none lt)
  where
    none : k < 0 → ⊥
    none g = omega arith
fate at d (e ∷ es) n m zero lt = fate_here at d e es n m (closed e) refl
fate at d (e ∷ es) n m (suc k) lt = fate_there at d e es n m (closed e) k refl (fate at d es (next (closed e) n) (next (closed e) m) k (omega arith))

-- the map of the pass names the second halves
module _ (at : Curve → Float) (d : Edge) (es : List Edge) (n : ℕ) where
  abbrev after : ℕ → Edge
  after i = get_or (kept_edges at n es ++ new_edges at n es) i d

  after_kept : (k : ℕ) → k < length es → after k ≡ get_or (kept_edges at n es) k d
  after_kept k lt = get_or-append (kept_edges at n es) (new_edges at n es) d k (omega (arith, length_kept at es n))

  after_new : (j : ℕ) → after (length es + j) ≡ get_or (new_edges at n es) j d
  after_new j = rw (← length_kept at es n) (get_or-append-add (kept_edges at n es) (new_edges at n es) j d)

  fate_kept : (k : ℕ) → k < length es → Fate at d es n (length es) k → get_or (added_to (length es) es) k None ≡ None
      → ((after k).front ≡ (get_or es k d).front) × ((after k).back ≡ (get_or es k d).back)
  fate_kept k lt (stays p r) z = let q = after_kept k lt ∙ r in (ap (λ (e : Edge). e.front) q, ap (λ (e : Edge). e.back) q)
  fate_kept k lt (halved j p r t) z = let q : ◌≡◌ {A = Option ℕ} (Some (length es + j)) None = sym p ∙ z in cc

  fate_cut : (k m : ℕ) → k < length es → Fate at d es n (length es) k → get_or (added_to (length es) es) k None ≡ Some m
      → ((after k).front ≡ (get_or es k d).front) × ((after k).back ≡ (after m).front) × ((after m).back ≡ (get_or es k d).back)
  unfolding halves_of
  fate_cut k m lt (stays p r) z = let q : ◌≡◌ {A = Option ℕ} None (Some m) = sym p ∙ z in cc
  fate_cut k m lt (halved j p r t) z =
      let q : ◌≡◌ {A = Option ℕ} (Some m) (Some (length es + j)) = sym z ∙ p in
      let is : m ≡ length es + j = cc in
      let a = after_kept k lt ∙ r in
      let b = ap after is ∙ after_new j ∙ t in
      (ap (λ (e : Edge). e.front) a, ap (λ (e : Edge). e.back) a ∙ sym (ap (λ (e : Edge). e.front) b), ap (λ (e : Edge). e.back) b)

  fate_old : (k : ℕ) → k < length es → Fate at d es n (length es) k → (after k).preparation ≡ (get_or es k d).preparation
  unfolding halves_of
  fate_old k lt (stays p r) = ap (λ (e : Edge). e.preparation) (after_kept k lt ∙ r)
  fate_old k lt (halved j p r t) = ap (λ (e : Edge). e.preparation) (after_kept k lt ∙ r)

  fate_piece : (k m : ℕ) → Fate at d es n (length es) k → get_or (added_to (length es) es) k None ≡ Some m → (after m).preparation ≡ (get_or es k d).preparation
  unfolding halves_of
  fate_piece k m (stays p r) z = let q : ◌≡◌ {A = Option ℕ} None (Some m) = sym p ∙ z in cc
  fate_piece k m (halved j p r t) z =
      let q : ◌≡◌ {A = Option ℕ} (Some m) (Some (length es + j)) = sym z ∙ p in
      let is : m ≡ length es + j = cc in
      ap (λ (e : Edge). e.preparation) (ap after is ∙ after_new j ∙ t)

-- the pass halves the edges that its map names
pub pass_halved : (at : Curve → Float) (d : Edge) (s : Shell) → Halved (added_to (length s.edges) s.edges) (length s.edges) (edge_in d s) (edge_in d (split_closed_edges at s))
unfolding split_closed_edges
pass_halved at d s =
    let es = s.edges in
    let n = length s.vertices in
    record {
      kept = λ i lt z. fate_kept at d es n i lt (fate at d es n (length es) i lt) z;
      cut = λ i m lt z. fate_cut at d es n i m lt (fate at d es n (length es) i lt) z;
      old = λ i lt. fate_old at d es n i lt (fate at d es n (length es) i lt);
      piece = λ i m lt z. fate_piece at d es n i m (fate at d es n (length es) i lt) z;
    }

-- connected wires stay connected in the closed-edge pass, and closed ones closed
pub pass_keeps : (at : Curve → Float) (d : Edge) (s : Shell) → UsesKnown s → Keeps d s (split_closed_edges at s)
unfolding split_closed_edges
pass_keeps at d s known = keeps d s (split_closed_edges at s) (added_to (length s.edges) s.edges) known (pass_halved at d s) refl

-- of a call: what was lent has none of the causes 1 to 5
module _ (vn : List ℕ) (vf : List Float) (en : List ℕ) (ef : List Float) (us ls : List ℕ) (v e w : ℕ) (at : Curve → Float) (z : input_cause (lent_of vn vf en ef us ls v e w) ≡ 0) where
  pub call_keeps : (d : Edge) → Keeps d (load (lent_of vn vf en ef us ls v e w)) (split_closed_edges at (load (lent_of vn vf en ef us ls v e w)))
  call_keeps d = pass_keeps at d (load (lent_of vn vf en ef us ls v e w)) (lent_known vn vf en ef us ls v e w z)
