-- One cut of a shell: connected wires stay connected and closed ones closed, and each wire is told use by use.
-- Assumes nothing.
use mathlib.Core.Path.{◌≡◌, refl, ap, sym, ◌∙◌}
use mathlib.Core.Bool.{Bool, true, false}
use mathlib.Core.List.{List, [], ◌∷◌}
use Prim.Native.Nat.{ℕ, ◌+◌, ◌*◌, ◌/◌, ◌<◌}
use native.Mathlib.Omega.{arith}
use borrow.Author.Tests.{eqb-true, eqb-false}
use lib.Dec.{eqb}
use lib.Ieee.{Float}
use lib.ListN.{length, get_or, set, replicate, length-set, length-replicate, get_or-append}
use lib.Seq.{get_or-append-add, get_or-set_same, get_or-set_other}
use Rattle.std.specs.Prelude.{Option, Some, None}
use Rattle.compress.specs.declared.Edge.{Edge}
use Rattle.compress.specs.Records.{pick, forward}
use Rattle.compress.specs.Rows.{edge_at}
use Rattle.compress.specs.Shell.{Shell, load}
use Rattle.compress.proofs.Layouts.{length_rows}
use Rattle.compress.proofs.Loading.{edge_loaded}
use Rattle.rows.specs.wires.Connected.{replaced}
use Rattle.cutting.specs.cut_edge.Cut.{halves_of}
use Rattle.cutting.specs.Keeps.{edge_in, wire_in, UsesKnown, Keeps}
use Rattle.cutting.specs.mending.Replace.{replaced_by, replace_use}
use Rattle.cutting.specs.Contract.{lent_of}
use Rattle.cutting.proofs.Keeping.{Halved, keeps, edges_replaced, wire_replaced, lent_known}
use Rattle.edge_cuts.specs.declared.cuts.Cut.{Cut}
use Rattle.one_cut.specs.Cut.{added_at, cut_once}
use Rattle.edge_cuts.specs.Contract.{edge_cuts_cause}
use Rattle.one_cut.specs.Pieces.{pieces_of}
use Rattle.compress.proofs.Cells.{all_alike}
use Rattle.edge_cuts.proofs.Outcome.{call_checked}

-- the map names edge i alone
pub added_here : (n i m : ℕ) → i < n → get_or (added_at n i m) i None ≡ Some m
unfolding added_at
added_here n i m lt = get_or-set_same (replicate n None) i (Some m) None (omega (arith, length-replicate {A = Option ℕ} n None))

pub added_else : (n i m k : ℕ) → (k ≡ i → ⊥) → get_or (added_at n i m) k None ≡ None
unfolding added_at
added_else n i m k ne = get_or-set_other (replicate n None) i k (Some m) None ne ∙ all_alike {A = Option ℕ} None n k

module _ (d : Edge) (s : Shell) (i : ℕ) (e : Edge) (c : Cut) (lt : i < length s.edges) (is : e ≡ get_or s.edges i d) where
  abbrev n : ℕ
  n = length s.edges

  abbrev after : Shell
  after = cut_once s i e c

  after_lent : (k : ℕ) → k < n → edge_in d after k ≡ get_or (set s.edges i (halves_of e c.t (length s.vertices)).old) k d
  unfolding cut_once
  after_lent k h = get_or-append (set s.edges i (halves_of e c.t (length s.vertices)).old) _ d k (omega (arith, length-set s.edges i (halves_of e c.t (length s.vertices)).old))

  after_cut : edge_in d after i ≡ (halves_of e c.t (length s.vertices)).old
  after_cut = after_lent i lt ∙ get_or-set_same s.edges i _ d lt

  after_else : (k : ℕ) → k < n → (k ≡ i → ⊥) → edge_in d after k ≡ edge_in d s k
  after_else k h ne = after_lent k h ∙ get_or-set_other s.edges i k _ d ne

  after_new : edge_in d after n ≡ (halves_of e c.t (length s.vertices)).new
  unfolding cut_once
  after_new =
      let l = length-set s.edges i (halves_of e c.t (length s.vertices)).old in
      let p : length (set s.edges i (halves_of e c.t (length s.vertices)).old) + 0 ≡ n = omega arith in
      rw (← p) (get_or-append-add (set s.edges i (halves_of e c.t (length s.vertices)).old) ((halves_of e c.t (length s.vertices)).new ∷ []) 0 d)

  kept : (k : ℕ) (b : Bool) → eqb k i ≡ b → k < n → get_or (added_at n i n) k None ≡ None
      → ((edge_in d after k).front ≡ (edge_in d s k).front) × ((edge_in d after k).back ≡ (edge_in d s k).back)
  kept k true p h z =
      let q : ◌≡◌ {A = Option ℕ} (Some n) None = sym (added_here n i n lt) ∙ (rw (eqb-true k i p) at z) in
      cc
  kept k false p h z =
      let q = after_else k h (eqb-false k i p) in
      (ap (λ (x : Edge). x.front) q, ap (λ (x : Edge). x.back) q)

  cut : (k m : ℕ) (b : Bool) → eqb k i ≡ b → k < n → get_or (added_at n i n) k None ≡ Some m
      → ((edge_in d after k).front ≡ (edge_in d s k).front) × ((edge_in d after k).back ≡ (edge_in d after m).front)
      × ((edge_in d after m).back ≡ (edge_in d s k).back)
  unfolding halves_of
  cut k m true p h z =
      let q : ◌≡◌ {A = Option ℕ} (Some n) (Some m) = sym (added_here n i n lt) ∙ (rw (eqb-true k i p) at z) in
      let is_n : m ≡ n = cc in
      let a = after_cut in
      let b = after_new in
      rw (eqb-true k i p, is_n) (
        ap (λ (x : Edge). x.front) a ∙ ap (λ (x : Edge). x.front) is,
        ap (λ (x : Edge). x.back) a ∙ sym (ap (λ (x : Edge). x.front) b),
        ap (λ (x : Edge). x.back) b ∙ ap (λ (x : Edge). x.back) is,
      )
  cut k m false p h z =
      let q : ◌≡◌ {A = Option ℕ} None (Some m) = sym (added_else n i n k (eqb-false k i p)) ∙ z in
      cc

  old : (k : ℕ) (b : Bool) → eqb k i ≡ b → k < n → (edge_in d after k).preparation ≡ (edge_in d s k).preparation
  unfolding halves_of
  old k true p h = rw (eqb-true k i p) (ap (λ (x : Edge). x.preparation) after_cut ∙ ap (λ (x : Edge). x.preparation) is)
  old k false p h = ap (λ (x : Edge). x.preparation) (after_else k h (eqb-false k i p))

  -- the map names edge i, and the piece cut off it
  pub named_here : (k m : ℕ) (b : Bool) → eqb k i ≡ b → get_or (added_at n i n) k None ≡ Some m → (k ≡ i) × (m ≡ n)
  named_here k m true p z =
      let q : ◌≡◌ {A = Option ℕ} (Some n) (Some m) = sym (added_here n i n lt) ∙ (rw (eqb-true k i p) at z) in
      (eqb-true k i p, cc)
  named_here k m false p z =
      let q : ◌≡◌ {A = Option ℕ} None (Some m) = sym (added_else n i n k (eqb-false k i p)) ∙ z in
      cc

  piece : (k m : ℕ) → get_or (added_at n i n) k None ≡ Some m → (edge_in d after m).preparation ≡ (edge_in d s k).preparation
  unfolding halves_of
  piece k m z =
      let q = named_here k m (eqb k i) refl z in
      rw (q.0, q.1) (ap (λ (x : Edge). x.preparation) after_new ∙ ap (λ (x : Edge). x.preparation) is)

  pub halved : Halved (added_at n i n) n (edge_in d s) (edge_in d after)
  halved =
      record {
        kept = λ k h z. kept k (eqb k i) refl h z;
        cut = λ k m h z. cut k m (eqb k i) refl h z;
        old = λ k h. old k (eqb k i) refl h;
        piece = λ k m h z. piece k m z;
      }

  -- connected wires stay connected, and closed ones closed
  pub cut_keeps : UsesKnown s → Keeps d s after
  unfolding cut_once
  cut_keeps known = keeps d s after (added_at n i n) known halved refl

  -- "each use of the cut edge becomes its two pieces in order, every other use stands as it did"
  pieces : (u : ℕ) (b f : Bool) → eqb (u / 2) i ≡ b → forward u ≡ f → replace_use u (get_or (added_at n i n) (u / 2) None) ≡ pieces_of i n u
  unfolding replace_use pieces_of
  pieces u true f p q =
      let a : get_or (added_at n i n) (u / 2) None ≡ Some n = rw (eqb-true (u / 2) i p) (added_here n i n lt) in
      rw (a, p, q) (by f)
    where
      by : (f : Bool) → replaced_by f u n ≡ pick f (u ∷ n * 2 ∷ []) ((n * 2 + 1) ∷ u ∷ [])
      by true = refl
      by false = refl
  pieces u false f p q = rw (added_else n i n (u / 2) (eqb-false (u / 2) i p), p)

  all_pieces : (w : List ℕ) → replaced (λ u. replace_use u (get_or (added_at n i n) (u / 2) None)) w ≡ replaced (pieces_of i n) w
  unfolding replaced
  all_pieces [] = refl
  all_pieces (u ∷ us) = rw (pieces u (eqb (u / 2) i) (forward u) refl refl, all_pieces us)

  pub cut_pieces : (k : ℕ) → wire_in after k ≡ replaced (pieces_of i n) (wire_in s k)
  unfolding cut_once
  cut_pieces k = wire_replaced (added_at n i n) s.wires k ∙ edges_replaced (added_at n i n) (wire_in s k) ∙ all_pieces (wire_in s k)

-- ---- of the call: what was lent has no cause
module _ (d : Edge) (vn : List ℕ) (vf : List Float) (en : List ℕ) (ef : List Float) (us ls : List ℕ) (v e w i : ℕ) (cs : List Float) (m : ℕ)
    (z : edge_cuts_cause (lent_of vn vf en ef us ls v e w) i cs m ≡ 0) where
  abbrev lent : Shell
  lent = load (lent_of vn vf en ef us ls v e w)

  lies : i < e
  lies = (call_checked (lent_of vn vf en ef us ls v e w) i cs m z).1

  below : i < length lent.edges
  unfolding load
  below = rw (length_rows (edge_at en ef) 0 e) lies

  read : edge_at en ef i ≡ get_or lent.edges i d
  read = edge_loaded (lent_of vn vf en ef us ls v e w) d i lies

  pub call_keeps : (c : Cut) → Keeps d lent (cut_once lent i (edge_at en ef i) c)
  call_keeps c = cut_keeps d lent i (edge_at en ef i) c below read (lent_known vn vf en ef us ls v e w (call_checked (lent_of vn vf en ef us ls v e w) i cs m z).0)

  pub call_pieces : (c : Cut) (k : ℕ) → wire_in (cut_once lent i (edge_at en ef i) c) k ≡ replaced (pieces_of i (length lent.edges)) (wire_in lent k)
  call_pieces c k = cut_pieces d lent i (edge_at en ef i) c below read k
