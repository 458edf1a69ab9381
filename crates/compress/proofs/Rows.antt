-- Rows of edges and of vertices: what was put is read back, other rows are untouched, and a record put where it stands changes nothing.
-- Assumes nothing.
use mathlib.Core.Path.{◌≡◌, refl, sym, ◌∙◌}
use mathlib.Core.Bool.{Bool, true, false}
use mathlib.Core.List.{List, [], ◌∷◌, ◌++◌}
use mathlib.Core.Logic.{◌⊎◌, inl, inr, ⊎_elim}
use Prim.Native.Nat.{ℕ, zero, suc, ◌+◌, ◌*◌, ◌≤◌, ◌<◌}
use native.Mathlib.Omega.{arith}
use lib.Dec.{eqb}
use lib.ListN.{length, get_or, set, length-append, get_or-append}
use lib.Seq.{sets, get_or-append_seam}
use lib.Ieee.{Float, nan}
use Rattle.compress.specs.declared.Uv.{Uv}
use Rattle.compress.specs.declared.Curve.{Curve}
use Rattle.compress.specs.declared.Curve.TheVariants.{Span, Seam}
use Rattle.compress.specs.declared.Preparation.{Preparation}
use Rattle.compress.specs.declared.Preparation.TheVariants.{Square, SingleBevel, DoubleBevel}
use Rattle.compress.specs.declared.Edge.{Edge}
use Rattle.compress.specs.declared.Vertex.{Vertex}
use Rattle.compress.specs.declared.Vertex.TheVariants.{Given, Pending}
use Rattle.compress.specs.Records.{pick, kind_of, number_of, preparation_number}
use Rattle.compress.specs.Layout.{put}
use Rattle.compress.specs.Rows.{edge_curve, vertex_curve, curve_kind_at, vertex_kind_at, edge_kind_at, preparation_of, preparation_at, KnownEdge, numbers_per_edge, floats_per_edge, numbers_per_vertex, floats_per_vertex, curve_of, edge_of, edge_at, vertex_of, vertex_at, curve_first, curve_cells, vertex_first, vertex_cells, edge_number_layout, edge_float_layout, vertex_number_layout, vertex_float_layout}
use Rattle.compress.proofs.Cells.{sets_append, sets_same, cells_at}
use Rattle.compress.proofs.Layouts.{Fits, put_at, put_other}

-- ---- every record's cells lie in its row
pub edge_numbers_fit : Fits edge_number_layout
unfolding Fits edge_number_layout
edge_numbers_fit e = omega arith

curve_fits : (c : Curve) → curve_first c + length (curve_cells c) ≡ 6
curve_fits (Span n a b) = refl
curve_fits (Seam n p q a b) = refl

pub edge_floats_fit : Fits edge_float_layout
unfolding Fits edge_float_layout
edge_floats_fit e = omega (arith, curve_fits e.curve)

pub vertex_numbers_fit : Fits vertex_number_layout
unfolding Fits vertex_number_layout
vertex_numbers_fit (Given x y z) = omega arith
vertex_numbers_fit (Pending c t) = omega arith

pub vertex_floats_fit : Fits vertex_float_layout
unfolding Fits vertex_float_layout
vertex_floats_fit (Given x y z) = omega arith
vertex_floats_fit (Pending (Span n a b) t) = omega arith
vertex_floats_fit (Pending (Seam n p q a b) t) = omega arith

-- the parameter stands behind the curve
pub pending_cells : (fs gs : List Float) (b : ℕ) (c : Curve) (t : Float) → gs ≡ sets fs (b + curve_first c) (curve_cells c)
    → set gs (b + 6) t ≡ sets fs (b + curve_first c) (curve_cells c ++ (t ∷ []))
pending_cells fs gs b c t e =
    let p : b + 6 ≡ b + curve_first c + length (curve_cells c) = omega (arith, curve_fits c) in
    rw (e, p) (sym (sets_append (curve_cells c) (t ∷ []) fs (b + curve_first c)))

-- ---- what was put is read back
module _ (ns : List ℕ) (fs : List Float) (i : ℕ) where
  -- the cells of the row, read from a slice in which the record was put
  edge_numbers_same : (e : Edge) (k m : ℕ) → i * numbers_per_edge + numbers_per_edge ≤ length ns → m ≡ i * numbers_per_edge + k → k < length (edge_number_layout.cells e)
      → get_or (put edge_number_layout ns i e) m 0 ≡ get_or (edge_number_layout.cells e) k 0
  unfolding edge_number_layout
  edge_numbers_same e k m h q hk = put_at edge_number_layout 0 ns i k m e (omega arith) hk (omega arith)

  curve_same : (c : Curve) (gs : List Float) (w : ℕ)
      → ((k m : ℕ) → m ≡ (w + curve_first c) + k → k < length (curve_cells c) → get_or gs m nan ≡ get_or (curve_cells c) k nan)
      → curve_of (kind_of c) (number_of c) (record { u = get_or gs w nan; v = get_or gs (w + 1) nan })
      (record { u = get_or gs (w + 2) nan; v = get_or gs (w + 3) nan }) (get_or gs (w + 4) nan) (get_or gs (w + 5) nan) ≡ c
  unfolding curve_of
  curve_same (Span n a b) gs w at = rw (at 0 (w + 4) (omega arith) (omega arith), at 1 (w + 5) (omega arith) (omega arith))
  curve_same (Seam n p q a b) gs w at =
      rw (
        at 0 w (omega arith) (omega arith),
        at 1 (w + 1) (omega arith) (omega arith),
        at 2 (w + 2) (omega arith) (omega arith),
        at 3 (w + 3) (omega arith) (omega arith),
        at 4 (w + 4) (omega arith) (omega arith),
        at 5 (w + 5) (omega arith) (omega arith),
      )

  -- a preparation is read as what was written
  preparation_same : (p : Preparation) → preparation_of (preparation_number p) ≡ p
  preparation_same Square = refl
  preparation_same SingleBevel = refl
  preparation_same DoubleBevel = refl

  pub edge_same : (e : Edge) → i * numbers_per_edge + numbers_per_edge ≤ length ns → i * floats_per_edge + floats_per_edge ≤ length fs
      → edge_at (put edge_number_layout ns i e) (put edge_float_layout fs i e) i ≡ e
  unfolding edge_of edge_number_layout edge_float_layout
  edge_same e hn hf =
      rw (
        edge_numbers_same e 0 (i * numbers_per_edge) hn (omega arith) (omega arith),
        edge_numbers_same e 1 (i * numbers_per_edge + 1) hn (omega arith) (omega arith),
        edge_numbers_same e 2 (i * numbers_per_edge + 2) hn (omega arith) (omega arith),
        edge_numbers_same e 3 (i * numbers_per_edge + 3) hn (omega arith) (omega arith),
        edge_numbers_same e 4 (i * numbers_per_edge + 4) hn (omega arith) (omega arith),
        preparation_same e.preparation,
        curve_same e.curve (put edge_float_layout fs i e) (i * floats_per_edge)
            (λ k m q hk. put_at edge_float_layout nan fs i k m e q hk (omega (arith, curve_fits e.curve))),
      )

  vertex_floats_same : (v : Vertex) (k m : ℕ) → i * floats_per_vertex + floats_per_vertex ≤ length fs → m ≡ (i * floats_per_vertex + vertex_float_layout.first v) + k → k < length (vertex_float_layout.cells v)
      → get_or (put vertex_float_layout fs i v) m nan ≡ get_or (vertex_float_layout.cells v) k nan
  unfolding vertex_float_layout Fits
  vertex_floats_same v k m h q hk = put_at vertex_float_layout nan fs i k m v q hk (omega (arith, vertex_floats_fit v))

  vertex_numbers_same : (v : Vertex) (k m : ℕ) → i * numbers_per_vertex + numbers_per_vertex ≤ length ns → m ≡ i * numbers_per_vertex + k → k < length (vertex_number_layout.cells v)
      → get_or (put vertex_number_layout ns i v) m 0 ≡ get_or (vertex_number_layout.cells v) k 0
  unfolding vertex_number_layout Fits
  vertex_numbers_same v k m h q hk = put_at vertex_number_layout 0 ns i k m v (omega arith) hk (omega (arith, vertex_numbers_fit v))

  pub vertex_same : (v : Vertex) → i * numbers_per_vertex + numbers_per_vertex ≤ length ns → i * floats_per_vertex + floats_per_vertex ≤ length fs
      → vertex_at (put vertex_number_layout ns i v) (put vertex_float_layout fs i v) i ≡ v
  unfolding vertex_of vertex_number_layout vertex_float_layout
  vertex_same (Given x y z) hn hf =
      rw (
        vertex_numbers_same (Given x y z) 0 (i * numbers_per_vertex) hn (omega arith) (omega arith),
        vertex_floats_same (Given x y z) 0 (i * floats_per_vertex) hf (omega arith) (omega arith),
        vertex_floats_same (Given x y z) 1 (i * floats_per_vertex + 1) hf (omega arith) (omega arith),
        vertex_floats_same (Given x y z) 2 (i * floats_per_vertex + 2) hf (omega arith) (omega arith),
      )
  vertex_same (Pending c t) hn hf =
      let gs = put vertex_float_layout fs i (Pending c t) in
      let six = curve_fits c in
      let len : length (curve_cells c ++ (t ∷ [])) ≡ length (curve_cells c) + 1 = length-append (curve_cells c) (t ∷ []) in
      let at : (k m : ℕ) → m ≡ (i * floats_per_vertex + curve_first c) + k → k < length (curve_cells c) → get_or gs m nan ≡ get_or (curve_cells c) k nan
      = λ k m q hk. vertex_floats_same (Pending c t) k m hf q (omega arith) ∙ get_or-append (curve_cells c) (t ∷ []) nan k hk in
      let last : get_or gs (i * floats_per_vertex + 6) nan ≡ t
      = vertex_floats_same (Pending c t) (length (curve_cells c)) (i * floats_per_vertex + 6) hf (omega arith) (omega arith) ∙ get_or-append_seam (curve_cells c) t [] nan in
      rw (
        vertex_numbers_same (Pending c t) 0 (i * numbers_per_vertex) hn (omega arith) (omega arith),
        vertex_numbers_same (Pending c t) 1 (i * numbers_per_vertex + 1) hn (omega arith) (omega arith),
        vertex_numbers_same (Pending c t) 2 (i * numbers_per_vertex + 2) hn (omega arith) (omega arith),
        last,
        curve_same c gs (i * floats_per_vertex) at,
      )

  -- ---- other rows are as they were
  pub edge_other : (e : Edge) (m : ℕ) → (m ≡ i → ⊥) → edge_at (put edge_number_layout ns i e) (put edge_float_layout fs i e) m ≡ edge_at ns fs m
  unfolding edge_number_layout edge_float_layout
  edge_other e m ne =
      let n : (k p : ℕ) → p ≡ m * numbers_per_edge + k → k < numbers_per_edge → get_or (put edge_number_layout ns i e) p 0 ≡ get_or ns p 0
      = λ k p q h. put_other edge_number_layout edge_numbers_fit 0 ns i m k p e ne q h in
      let f : (k p : ℕ) → p ≡ m * floats_per_edge + k → k < floats_per_edge → get_or (put edge_float_layout fs i e) p nan ≡ get_or fs p nan
      = λ k p q h. put_other edge_float_layout edge_floats_fit nan fs i m k p e ne q h in
      rw (
        n 0 (m * numbers_per_edge) (omega arith) (omega arith),
        n 1 (m * numbers_per_edge + 1) (omega arith) (omega arith),
        n 2 (m * numbers_per_edge + 2) (omega arith) (omega arith),
        n 3 (m * numbers_per_edge + 3) (omega arith) (omega arith),
        n 4 (m * numbers_per_edge + 4) (omega arith) (omega arith),
        f 0 (m * floats_per_edge) (omega arith) (omega arith),
        f 1 (m * floats_per_edge + 1) (omega arith) (omega arith),
        f 2 (m * floats_per_edge + 2) (omega arith) (omega arith),
        f 3 (m * floats_per_edge + 3) (omega arith) (omega arith),
        f 4 (m * floats_per_edge + 4) (omega arith) (omega arith),
        f 5 (m * floats_per_edge + 5) (omega arith) (omega arith),
      )

  pub vertex_other : (v : Vertex) (m : ℕ) → (m ≡ i → ⊥) → vertex_at (put vertex_number_layout ns i v) (put vertex_float_layout fs i v) m ≡ vertex_at ns fs m
  unfolding vertex_number_layout vertex_float_layout
  vertex_other v m ne =
      let n : (k p : ℕ) → p ≡ m * numbers_per_vertex + k → k < numbers_per_vertex → get_or (put vertex_number_layout ns i v) p 0 ≡ get_or ns p 0
      = λ k p q h. put_other vertex_number_layout vertex_numbers_fit 0 ns i m k p v ne q h in
      let f : (k p : ℕ) → p ≡ m * floats_per_vertex + k → k < floats_per_vertex → get_or (put vertex_float_layout fs i v) p nan ≡ get_or fs p nan
      = λ k p q h. put_other vertex_float_layout vertex_floats_fit nan fs i m k p v ne q h in
      rw (
        n 0 (m * numbers_per_vertex) (omega arith) (omega arith),
        n 1 (m * numbers_per_vertex + 1) (omega arith) (omega arith),
        n 2 (m * numbers_per_vertex + 2) (omega arith) (omega arith),
        f 0 (m * floats_per_vertex) (omega arith) (omega arith),
        f 1 (m * floats_per_vertex + 1) (omega arith) (omega arith),
        f 2 (m * floats_per_vertex + 2) (omega arith) (omega arith),
        f 3 (m * floats_per_vertex + 3) (omega arith) (omega arith),
        f 4 (m * floats_per_vertex + 4) (omega arith) (omega arith),
        f 5 (m * floats_per_vertex + 5) (omega arith) (omega arith),
        f 6 (m * floats_per_vertex + 6) (omega arith) (omega arith),
      )

-- ---- a record put where it stands changes nothing, where its kinds and its preparation are known ones
two_kinds : (k : ℕ) → k < 2 → (k ≡ 0) ⊎ (k ≡ 1)
two_kinds zero h = inl refl
two_kinds (suc zero) h = inr refl
two_kinds (suc (suc k)) h = absurd (none h)
  where
    none : suc (suc k) < 2 → ⊥
    none g = omega arith

module _ (k n : ℕ) (p q : Uv) (a b : Float) where
  kind_kept : k < 2 → kind_of (curve_of k n p q a b) ≡ k
  unfolding curve_of
  kind_kept h = ⊎_elim (λ (e : k ≡ 0). rw e) (λ (e : k ≡ 1). rw e) (two_kinds k h)

  number_kept : number_of (curve_of k n p q a b) ≡ n
  unfolding curve_of
  number_kept = by (eqb k 0)
    where
      by : (t : Bool) → number_of (pick t (Span n a b) (Seam n p q a b)) ≡ n
      by true = refl
      by false = refl

pub preparation_kept : (n : ℕ) → n < 3 → preparation_number (preparation_of n) ≡ n
preparation_kept zero h = refl
preparation_kept (suc zero) h = refl
preparation_kept (suc (suc n)) h =
    let z : n ≡ 0 = omega arith in
    rw z

-- the run of cells of a row, at the indices by which it is read
module _ (j : ℕ) where
  one : j + 1 ≡ suc j
  one = omega arith

  two : j + 2 ≡ suc (suc j)
  two = omega arith

  three : j + 3 ≡ suc (suc (suc j))
  three = omega arith

  four : j + 4 ≡ suc (suc (suc (suc j)))
  four = omega arith

  five : j + 5 ≡ suc (suc (suc (suc (suc j))))
  five = omega arith

pub edge_numbers_stand : (ns : List ℕ) (fs : List Float) (i : ℕ) → KnownEdge ns i → put edge_number_layout ns i (edge_at ns fs i) ≡ ns
unfolding put edge_number_layout edge_of cells_at
edge_numbers_stand ns fs i h =
    let z : i * numbers_per_edge + 0 ≡ i * numbers_per_edge = omega arith in
    rw (
      kind_kept (edge_kind_at ns i) (get_or ns (i * numbers_per_edge + edge_curve) 0) _ _ _ _ h.0,
      preparation_kept (preparation_at ns i) h.1,
      number_kept (edge_kind_at ns i) (get_or ns (i * numbers_per_edge + edge_curve) 0) _ _ _ _,
      z,
      one (i * numbers_per_edge),
      two (i * numbers_per_edge),
      three (i * numbers_per_edge),
      four (i * numbers_per_edge),
    )
    (sets_same 0 ns (i * numbers_per_edge) numbers_per_edge)

-- whatever the kind says, the cells that are read are those that are written
curve_stands : (t : Bool) (n : ℕ) (fs : List Float) (j : ℕ)
    → sets fs (j + curve_first (pick t (Span n (get_or fs (j + 4) nan) (get_or fs (j + 5) nan))
    (Seam n (record { u = get_or fs j nan; v = get_or fs (j + 1) nan }) (record { u = get_or fs (j + 2) nan; v = get_or fs (j + 3) nan }) (get_or fs (j + 4) nan) (get_or fs (j + 5) nan))))
    (curve_cells (pick t (Span n (get_or fs (j + 4) nan) (get_or fs (j + 5) nan))
    (Seam n (record { u = get_or fs j nan; v = get_or fs (j + 1) nan }) (record { u = get_or fs (j + 2) nan; v = get_or fs (j + 3) nan }) (get_or fs (j + 4) nan) (get_or fs (j + 5) nan))))
    ≡ fs
unfolding cells_at
curve_stands true n fs j =
    let p : j + 5 ≡ suc (j + 4) = omega arith in
    rw p (sets_same nan fs (j + 4) 2)
curve_stands false n fs j =
    let z : j + 0 ≡ j = omega arith in
    rw (z, one j, two j, three j, four j, five j) (sets_same nan fs j 6)

pub edge_floats_stand : (ns : List ℕ) (fs : List Float) (i : ℕ) → put edge_float_layout fs i (edge_at ns fs i) ≡ fs
unfolding put edge_float_layout edge_of curve_of
edge_floats_stand ns fs i = curve_stands (eqb (edge_kind_at ns i) 0) (get_or ns (i * numbers_per_edge + edge_curve) 0) fs (i * floats_per_edge)

-- "kind 1" of a vertex is a pending one, which has a curve
pub vertex_numbers_stand : (ns : List ℕ) (fs : List Float) (i : ℕ) → vertex_kind_at ns i < 2 → (vertex_kind_at ns i ≡ 1 → curve_kind_at ns i < 2)
    → put vertex_number_layout ns i (vertex_at ns fs i) ≡ ns
unfolding put vertex_number_layout vertex_of cells_at
vertex_numbers_stand ns fs i h g =
    let z : i * numbers_per_vertex + 0 ≡ i * numbers_per_vertex = omega arith in
    let k = vertex_kind_at ns i in
    ⊎_elim
    (λ (e : k ≡ 0). rw (e, z, ← e) (sets_same 0 ns (i * numbers_per_vertex) 1))
    (λ (e : k ≡ 1).
    rw (
      e,
      kind_kept (curve_kind_at ns i) (get_or ns (i * numbers_per_vertex + vertex_curve) 0) _ _ _ _ (g e),
      number_kept (curve_kind_at ns i) (get_or ns (i * numbers_per_vertex + vertex_curve) 0) _ _ _ _,
      z,
      one (i * numbers_per_vertex),
      two (i * numbers_per_vertex),
      ← e,
    )
    (sets_same 0 ns (i * numbers_per_vertex) 3))
    (two_kinds k h)

pending_stands : (s t : Bool) (n : ℕ) (fs : List Float) (j : ℕ) (v : Vertex)
    → v ≡ pick s (Given (get_or fs j nan) (get_or fs (j + 1) nan) (get_or fs (j + 2) nan))
    (Pending (pick t (Span n (get_or fs (j + 4) nan) (get_or fs (j + 5) nan))
    (Seam n (record { u = get_or fs j nan; v = get_or fs (j + 1) nan }) (record { u = get_or fs (j + 2) nan; v = get_or fs (j + 3) nan }) (get_or fs (j + 4) nan) (get_or fs (j + 5) nan)))
    (get_or fs (j + 6) nan))
    → sets fs (j + vertex_first v) (vertex_cells v) ≡ fs
unfolding cells_at
pending_stands true t n fs j v e =
    let z : j + 0 ≡ j = omega arith in
    rw (e, z, one j, two j) (sets_same nan fs j 3)
pending_stands false true n fs j v e =
    let p : j + 5 ≡ suc (j + 4) = omega arith in
    let q : j + 6 ≡ suc (suc (j + 4)) = omega arith in
    rw (e, p, q) (sets_same nan fs (j + 4) 3)
pending_stands false false n fs j v e =
    let z : j + 0 ≡ j = omega arith in
    let s : j + 6 ≡ suc (suc (suc (suc (suc (suc j))))) = omega arith in
    rw (e, z, one j, two j, three j, four j, five j, s) (sets_same nan fs j 7)

pub vertex_floats_stand : (ns : List ℕ) (fs : List Float) (i : ℕ) → put vertex_float_layout fs i (vertex_at ns fs i) ≡ fs
unfolding put vertex_float_layout vertex_of curve_of
vertex_floats_stand ns fs i =
    pending_stands (eqb (vertex_kind_at ns i) 0) (eqb (curve_kind_at ns i) 0) (get_or ns (i * numbers_per_vertex + vertex_curve) 0) fs (i * floats_per_vertex) (vertex_at ns fs i) refl
