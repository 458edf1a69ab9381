-- The tables, one turn of `add_edges` at a time.
-- Assumes nothing.
use mathlib.Core.Path.{◌≡◌, refl, ap, sym}
use mathlib.Core.Bool.{Bool, true, false}
use mathlib.Core.List.{List, [], ◌∷◌, ◌++◌}
use Prim.Native.Nat.{ℕ, suc, ◌+◌, ◌≤◌}
use native.Mathlib.Omega.{arith}
use borrow.Author.Tests.{eq-eqb, ne_eqb}
use lib.Ieee.{Float}
use lib.ListN.{length}
use Rattle.compress.specs.declared.Curve.{Curve}
use Rattle.compress.specs.declared.Edge.{Edge}
use Rattle.compress.specs.declared.Vertex.{Vertex}
use Rattle.compress.specs.Records.{closed}
use Rattle.compress.specs.Layout.{Layout, put, store_from}
use Rattle.compress.proofs.Layouts.{Fits, store_first, store_put}
use Rattle.cutting.specs.cut_edge.Cut.{halves_of, pending_of}
use Rattle.split_closed_edges.specs.add_edges.Steps.{cut_rows, pending_row, closed_count}
use Rattle.split_closed_edges.specs.add_edges.Add.{next, kept_edge, new_edge, new_vertex, kept_edges, new_edges, new_vertices}

-- what the code's test of the ends says
pub closed_yes : (r e : Edge) → r ≡ e → r.front ≡ r.back → closed e ≡ true
unfolding closed
closed_yes r e q h = rw (← q) (eq-eqb _ _ h)

pub closed_no : (r e : Edge) → r ≡ e → (r.front ≡ r.back → ⊥) → closed e ≡ false
unfolding closed
closed_no r e q h = rw (← q) (ne_eqb _ _ h)

-- ---- the lists of `Pass`, one edge further, at a name for its test
module _ (at : Curve → Float) (n : ℕ) (e : Edge) (es : List Edge) (b : Bool) (q : b ≡ closed e) where
  pub kept_first : kept_edges at n (e ∷ es) ≡ kept_edge at b n e ∷ kept_edges at (next b n) es
  unfolding kept_edges
  kept_first = rw q

  pub new_first : new_edges at n (e ∷ es) ≡ new_edge at b n e ++ new_edges at (next b n) es
  unfolding new_edges
  new_first = rw q

  pub vertices_first : new_vertices at (e ∷ es) ≡ new_vertex at b e ++ new_vertices at es
  unfolding new_vertices
  vertices_first = rw q

module _ (e : Edge) (es : List Edge) (b : Bool) (q : b ≡ closed e) where
  pub count_first : closed_count (e ∷ es) ≡ next b (closed_count es)
  unfolding closed_count
  count_first = rw q

pub length_kept : (at : Curve → Float) (es : List Edge) (n : ℕ) → length (kept_edges at n es) ≡ length es
unfolding kept_edges
length_kept at [] n = refl
length_kept at (e ∷ es) n = ap suc (length_kept at es (next (closed e) n))

-- ---- one turn, in a slice of any layout: what is left to store gives the same
module _ (at : Curve → Float) {A : Type 0} (l : Layout A Edge) (fit : Fits l) where
  -- what is left to store from row i and from row m on
  abbrev pub left : List A → ℕ → ℕ → ℕ → List Edge → List A
  left s n i m es = store_from l (store_from l s i (kept_edges at n es)) m (new_edges at n es)

  pub edges_turn : (b : Bool) (s : List A) (n i m : ℕ) (e : Edge) (es : List Edge) → b ≡ closed e → i + 1 + length es ≤ m → put l s i e ≡ s
      → left (cut_rows l at b n i m e s) (next b n) (i + 1) (next b m) es ≡ left s n i m (e ∷ es)
  edges_turn true s n i m e es q h same =
      let h₀ = (halves_of e (at e.curve) n).old in
      let h₁ = (halves_of e (at e.curve) n).new in
      let k = kept_edges at (n + 1) es in
      let p : store_from l (put l (put l s i h₀) m h₁) (i + 1) k ≡ put l (store_from l (put l s i h₀) (i + 1) k) m h₁
      = store_put l fit k (put l s i h₀) (i + 1) m h₁ (omega (arith, length_kept at es (n + 1))) in
      rw (kept_first at n e es true q, new_first at n e es true q, p, store_first l s i h₀ k)
      (sym (store_first l (store_from l (put l s i h₀) (i + 1) k) m h₁ (new_edges at (n + 1) es)))
  edges_turn false s n i m e es q h same =
      rw (kept_first at n e es false q, new_first at n e es false q, store_first l s i e (kept_edges at n es), same)

pub vertices_turn : (at : Curve → Float) {A : Type 0} (l : Layout A Vertex) (b : Bool) (s : List A) (n : ℕ) (e : Edge) (es : List Edge) → b ≡ closed e
    → store_from l (pending_row l at b n e s) (next b n) (new_vertices at es) ≡ store_from l s n (new_vertices at (e ∷ es))
vertices_turn at l true s n e es q = rw (vertices_first at n e es true q) (sym (store_first l s n (pending_of at e) (new_vertices at es)))
vertices_turn at l false s n e es q = rw (vertices_first at n e es false q)
