-- Where `add_edges` stands: in every slice what is left to store gives the same at each turn.
-- Assumes nothing.
use mathlib.Core.Path.{◌≡◌, refl, sym, ◌∙◌}
use mathlib.Core.Bool.{Bool, true, false}
use mathlib.Core.List.{List, ◌∷◌, ◌++◌}
use Prim.Native.Nat.{ℕ, ◌+◌, ◌-◌, ◌*◌, ◌≤◌, ◌<◌}
use native.Mathlib.Omega.{arith}
use borrow.Author.Tests.{ltb-true, ltb-false}
use lib.Dec.{ltb}
use lib.ListN.{length, get_or}
use lib.Ieee.{Float}
use Rattle.compress.specs.declared.Curve.{Curve}
use Rattle.compress.specs.declared.Edge.{Edge}
use Rattle.compress.specs.Records.{closed}
use Rattle.compress.specs.Layout.{Layout, put, store_from, rows}
use Rattle.compress.specs.Rows.{edge_kind, edge_preparation, numbers_per_edge, numbers_per_vertex, floats_per_vertex, KnownEdge, edge_at, vertex_at, edge_number_layout, edge_float_layout, vertex_number_layout, vertex_float_layout}
use Rattle.compress.proofs.Layouts.{store_none, store_append, put_other, rows_none, rows_first, rows_agree, length_rows}
use Rattle.compress.proofs.Rows.{vertex_same, vertex_other, edge_other, edge_numbers_fit, edge_floats_fit, edge_numbers_stand, edge_floats_stand}
use Rattle.checks.specs.Causes.{curve_cause, vertex_cause}
use Rattle.cutting.specs.cut_edge.Cut.{halves_of, pending_of}
use Rattle.split_closed_edges.specs.add_edges.Add.{next, kept_edges, new_edges, new_vertices}
use Rattle.split_closed_edges.specs.add_edges.Steps.{cut_rows, pending_row, closed_count, PlaceFor, VerticesPass, Addable, Added}
use Rattle.split_closed_edges.proofs.add_edges.Edges.{left, edges_turn, vertices_turn, count_first, length_kept}

-- ---- rows past row i keep what they held
module _ (at : Curve → Float) (b : Bool) (n i m : ℕ) (e : Edge) (en : List ℕ) (ef : List Float) where
  pub edge_past : (j : ℕ) → i < j → j < m → edge_at (cut_rows edge_number_layout at b n i m e en) (cut_rows edge_float_layout at b n i m e ef) j ≡ edge_at en ef j
  edge_past j lo hi = by b
    where
      by : (c : Bool) → edge_at (cut_rows edge_number_layout at c n i m e en) (cut_rows edge_float_layout at c n i m e ef) j ≡ edge_at en ef j
      by true =
          let h₀ = (halves_of e (at e.curve) n).old in
          edge_other (put edge_number_layout en i h₀) (put edge_float_layout ef i h₀) m (halves_of e (at e.curve) n).new j (λ q. omega arith)
          ∙ edge_other en ef i h₀ j (λ q. omega arith)
      by false = refl

  number_past : (j k : ℕ) → i < j → j < m → k < numbers_per_edge → get_or (cut_rows edge_number_layout at b n i m e en) (j * numbers_per_edge + k) 0 ≡ get_or en (j * numbers_per_edge + k) 0
  unfolding edge_number_layout
  number_past j k lo hi h = by b
    where
      by : (c : Bool) → get_or (cut_rows edge_number_layout at c n i m e en) (j * numbers_per_edge + k) 0 ≡ get_or en (j * numbers_per_edge + k) 0
      by true =
          let h₀ = (halves_of e (at e.curve) n).old in
          put_other edge_number_layout edge_numbers_fit 0 (put edge_number_layout en i h₀) m j k (j * numbers_per_edge + k) (halves_of e (at e.curve) n).new (λ q. omega arith) refl h
          ∙ put_other edge_number_layout edge_numbers_fit 0 en i j k (j * numbers_per_edge + k) h₀ (λ q. omega arith) refl h
      by false = refl

  pub known_past : (j : ℕ) → i < j → j < m → KnownEdge en j → KnownEdge (cut_rows edge_number_layout at b n i m e en) j
  known_past j lo hi h = rw (number_past j edge_kind lo hi (omega arith), number_past j edge_preparation lo hi (omega arith)) h

-- ---- the vertices up to row n, and the new one where there is one, have no cause
pub vertices_pass : (at : Curve → Float) (b : Bool) (n : ℕ) (e : Edge) (vn : List ℕ) (vf : List Float)
    → (b ≡ true → (n * numbers_per_vertex + numbers_per_vertex ≤ length vn) × (n * floats_per_vertex + floats_per_vertex ≤ length vf))
    → (b ≡ true → vertex_cause (pending_of at e) ≡ 0) → VerticesPass vn vf n
    → VerticesPass (pending_row vertex_number_layout at b n e vn) (pending_row vertex_float_layout at b n e vf) (next b n)
vertices_pass at false n e vn vf room new old k h = old k h
vertices_pass at true n e vn vf room new old k h = by (ltb k n) refl
  where
    by : (c : Bool) → ltb k n ≡ c
        → vertex_cause (vertex_at (pending_row vertex_number_layout at true n e vn) (pending_row vertex_float_layout at true n e vf) k) ≡ 0
    by true q = let p = ltb-true k n q in rw (vertex_other vn vf n (pending_of at e) k (λ s. omega arith)) (old k p)
    by false q =
        let p = ltb-false k n q in
        let s : k ≡ n = omega arith in
        let f = room refl in
        rw (s, vertex_same vn vf n (pending_of at e) f.0 f.1) (new refl)

pub record Adding (at : Curve → Float) (n₀ count : ℕ) (vn₀ : List ℕ) (vf₀ : List Float) (en₀ : List ℕ) (ef₀ : List Float)
    (vn : List ℕ) (vf : List Float) (en : List ℕ) (ef : List Float) (i n m : ℕ) : Type 0 where
  pub i_le : i ≤ count
  pub m_ge : count ≤ m
  pub n_is : n + closed_count (rows (edge_at en ef) i (count - i)) ≡ n₀ + closed_count (rows (edge_at en₀ ef₀) 0 count)
  pub m_is : m + closed_count (rows (edge_at en ef) i (count - i)) ≡ count + closed_count (rows (edge_at en₀ ef₀) 0 count)
  pub same_vn : length vn ≡ length vn₀
  pub same_vf : length vf ≡ length vf₀
  pub same_en : length en ≡ length en₀
  pub same_ef : length ef ≡ length ef₀
  pub known : (j : ℕ) → i ≤ j → j < count → KnownEdge en j
  pub vertices : VerticesPass vn vf n
  pub curves : (j : ℕ) → i ≤ j → j < count → curve_cause (edge_at en ef j).curve ≡ 0
  pub to_vn : store_from vertex_number_layout vn n (new_vertices at (rows (edge_at en ef) i (count - i))) ≡ store_from vertex_number_layout vn₀ n₀ (new_vertices at (rows (edge_at en₀ ef₀) 0 count))
  pub to_vf : store_from vertex_float_layout vf n (new_vertices at (rows (edge_at en ef) i (count - i))) ≡ store_from vertex_float_layout vf₀ n₀ (new_vertices at (rows (edge_at en₀ ef₀) 0 count))
  pub to_en : left at edge_number_layout edge_numbers_fit en n i m (rows (edge_at en ef) i (count - i)) ≡ left at edge_number_layout edge_numbers_fit en₀ n₀ 0 count (rows (edge_at en₀ ef₀) 0 count)
  pub to_ef : left at edge_float_layout edge_floats_fit ef n i m (rows (edge_at en ef) i (count - i)) ≡ left at edge_float_layout edge_floats_fit ef₀ n₀ 0 count (rows (edge_at en₀ ef₀) 0 count)

pub count_step : (b : Bool) (k r x y : ℕ) → x ≡ next b r → k + x ≡ y → next b k + r ≡ y
count_step true k r x y p q = omega arith
count_step false k r x y p q = omega arith

pub next_ge : (b : Bool) (count m : ℕ) → count ≤ m → count ≤ next b m
next_ge true count m h = omega arith
next_ge false count m h = h

module _ (at : Curve → Float) (n₀ count : ℕ) (vn₀ : List ℕ) (vf₀ : List Float) (en₀ : List ℕ) (ef₀ : List Float) where
  pub adding_start : Addable n₀ count vn₀ vf₀ en₀ ef₀ → Adding at n₀ count vn₀ vf₀ en₀ ef₀ vn₀ vf₀ en₀ ef₀ 0 n₀ count
  adding_start a =
      let p : count - 0 ≡ count = omega arith in
      record {
        i_le = omega arith;
        m_ge = omega arith;
        n_is = rw p;
        m_is = rw p;
        same_vn = refl;
        same_vf = refl;
        same_en = refl;
        same_ef = refl;
        known = λ j lo hi. a.known j hi;
        vertices = a.vertices;
        curves = λ j lo hi. a.curves j hi;
        to_vn = rw p;
        to_vf = rw p;
        to_en = rw p;
        to_ef = rw p;
      }

  module _ (vn : List ℕ) (vf : List Float) (en : List ℕ) (ef : List Float) (i n m : ℕ) (M : Adding at n₀ count vn₀ vf₀ en₀ ef₀ vn vf en ef i n m) (lt : i < count) where
    -- the edges from row i on: the one of row i and the rest
    first : rows (edge_at en ef) i (count - i) ≡ edge_at en ef i ∷ rows (edge_at en ef) (i + 1) (count - (i + 1))
    first = rows_first (edge_at en ef) i (count - i) (count - (i + 1)) (omega arith)

    -- a turn that cuts has its places
    pub place : Addable n₀ count vn₀ vf₀ en₀ ef₀ → closed (edge_at en ef i) ≡ true → PlaceFor n m vn vf en ef
    place a q =
        let c : closed_count (rows (edge_at en ef) i (count - i)) ≡ closed_count (rows (edge_at en ef) (i + 1) (count - (i + 1))) + 1
        = rw first (count_first (edge_at en ef i) (rows (edge_at en ef) (i + 1) (count - (i + 1))) true (sym q)) in
        record {
          below = omega (arith, a.below, M.n_is);
          vertex_numbers = omega (arith, a.vertex_numbers, M.n_is, M.same_vn);
          vertex_floats = omega (arith, a.vertex_floats, M.n_is, M.same_vf);
          edge_numbers = omega (arith, a.edge_numbers, M.m_is, M.same_en);
          edge_floats = omega (arith, a.edge_floats, M.m_is, M.same_ef);
        }

    pub adding_turn : Addable n₀ count vn₀ vf₀ en₀ ef₀ → (b : Bool) (vn' : List ℕ) (vf' : List Float) (en' : List ℕ) (ef' : List Float) (n' m' : ℕ) → b ≡ closed (edge_at en ef i)
        → (b ≡ true → curve_cause (edge_at en ef i).curve ≡ 0 → vertex_cause (pending_of at (edge_at en ef i)) ≡ 0)
        → vn' ≡ pending_row vertex_number_layout at b n (edge_at en ef i) vn → vf' ≡ pending_row vertex_float_layout at b n (edge_at en ef i) vf
        → en' ≡ cut_rows edge_number_layout at b n i m (edge_at en ef i) en → ef' ≡ cut_rows edge_float_layout at b n i m (edge_at en ef i) ef
        → length vn' ≡ length vn → length vf' ≡ length vf → length en' ≡ length en → length ef' ≡ length ef
        → n' ≡ next b n → m' ≡ next b m
        → Adding at n₀ count vn₀ vf₀ en₀ ef₀ vn' vf' en' ef' (i + 1) n' m'
    adding_turn a b vn' vf' en' ef' n' m' q accepted e₁ e₂ e₃ e₄ l₁ l₂ l₃ l₄ en_is em_is =
        let e = edge_at en ef i in
        let k = count - (i + 1) in
        let es = rows (edge_at en ef) (i + 1) k in
        let r : rows (edge_at en' ef') (i + 1) k ≡ es
        = rw (e₃, e₄) (rows_agree (edge_at (cut_rows edge_number_layout at b n i m e en) (cut_rows edge_float_layout at b n i m e ef)) (edge_at en ef) (i + 1) k
        (λ j lo hi. edge_past at b n i m e en ef j (omega arith) (omega (arith, M.m_ge)))) in
        let c = count_first e es b q in
        let room : i + 1 + length es ≤ m = omega (arith, length_rows (edge_at en ef) (i + 1) k, M.m_ge) in
        let place_for : b ≡ true → (n * numbers_per_vertex + numbers_per_vertex ≤ length vn) × (n * floats_per_vertex + floats_per_vertex ≤ length vf)
        = λ p. let f = place a (sym q ∙ p) in (f.vertex_numbers, f.vertex_floats) in
        record {
          i_le = omega arith;
          m_ge = rw em_is (next_ge b count m M.m_ge);
          n_is = rw (r, en_is) (count_step b n (closed_count es) (closed_count (e ∷ es)) _ c (rw first at M.n_is));
          m_is = rw (r, em_is) (count_step b m (closed_count es) (closed_count (e ∷ es)) _ c (rw first at M.m_is));
          same_vn = l₁ ∙ M.same_vn;
          same_vf = l₂ ∙ M.same_vf;
          same_en = l₃ ∙ M.same_en;
          same_ef = l₄ ∙ M.same_ef;
          known = λ j lo hi. rw e₃ (known_past at b n i m e en ef j (omega arith) (omega (arith, M.m_ge)) (M.known j (omega arith) hi));
          vertices = rw (e₁, e₂, en_is) (vertices_pass at b n e vn vf place_for (λ p. accepted p (M.curves i (omega arith) lt)) M.vertices);
          curves = λ j lo hi. rw (e₃, e₄, edge_past at b n i m e en ef j (omega arith) (omega (arith, M.m_ge))) (M.curves j (omega arith) hi);
          to_vn = rw (r, e₁, en_is) (vertices_turn at vertex_number_layout b vn n e es q ∙ rw first at M.to_vn);
          to_vf = rw (r, e₂, en_is) (vertices_turn at vertex_float_layout b vf n e es q ∙ rw first at M.to_vf);
          to_en = rw (r, e₃, en_is, em_is)
              (edges_turn at edge_number_layout edge_numbers_fit b en n i m e es q room (edge_numbers_stand en ef i (M.known i (omega arith) lt)) ∙ rw first at M.to_en);
          to_ef = rw (r, e₄, en_is, em_is)
              (edges_turn at edge_float_layout edge_floats_fit b ef n i m e es q room (edge_floats_stand en ef i) ∙ rw first at M.to_ef);
        }

  -- what is stored behind the kept edges is stored with them
  joined : {A : Type 0} (l : Layout A Edge) (s : List A) (es : List Edge) → length es ≡ count
      → store_from l (store_from l s 0 (kept_edges at n₀ es)) count (new_edges at n₀ es) ≡ store_from l s 0 (kept_edges at n₀ es ++ new_edges at n₀ es)
  joined l s es h =
      let p : 0 + length (kept_edges at n₀ es) ≡ count = omega (arith, length_kept at es n₀) in
      rw (store_append l (kept_edges at n₀ es) (new_edges at n₀ es) s 0, p)

  pub adding_done : (vn : List ℕ) (vf : List Float) (en : List ℕ) (ef : List Float) (i n m : ℕ)
      → Adding at n₀ count vn₀ vf₀ en₀ ef₀ vn vf en ef i n m → count ≤ i → Added at n₀ count vn₀ vf₀ en₀ ef₀ vn vf en ef
  unfolding new_vertices new_edges kept_edges closed_count
  adding_done vn vf en ef i n m M h =
      let p : count - i ≡ 0 = omega arith in
      let z = rows_none (edge_at en ef) i in
      let l = length_rows (edge_at en₀ ef₀) 0 count in
      record {
        vertex_numbers = rw (p, z, store_none) at M.to_vn;
        vertex_floats = rw (p, z, store_none) at M.to_vf;
        edge_numbers = (rw (p, z, store_none, store_none) at M.to_en) ∙ joined edge_number_layout en₀ (rows (edge_at en₀ ef₀) 0 count) l;
        edge_floats = (rw (p, z, store_none, store_none) at M.to_ef) ∙ joined edge_float_layout ef₀ (rows (edge_at en₀ ef₀) 0 count) l;
        vertices = λ k g. M.vertices k (omega (arith, rw (p, z) at M.n_is));
      }
