-- One edge cut at its cuts, from what the steps gave: on each of its ways out the answer and every slice are those of `points_outcome`.
-- Assumes nothing.
use mathlib.Core.Path.{◌≡◌, refl, ap, sym, ◌∙◌}
use mathlib.Core.Bool.{Bool, true, false, ◌&&◌}
use mathlib.Core.List.{List, [], ◌∷◌}
use Prim.Native.Nat.{ℕ, ◌+◌, ◌*◌, ◌≤◌, ◌<◌}
use native.Mathlib.Omega.{arith}
use lib.ListN.{length, get_or, set, take, length-append, length-set}
use lib.Dec.{eqb, leb, ltb}
use borrow.Author.Tests.{leb-false, ltb-false}
use lib.Ieee.{Float, nan}
use Rattle.std.specs.Prelude.{Result, Ok, Err, is_ok}
use Rattle.std.proofs.lemmas.Bool.{and_parts}
use Rattle.std.proofs.lemmas.List.{length-map}
use Rattle.compress.specs.declared.Curve.{Curve}
use Rattle.compress.specs.declared.Edge.{Edge}
use Rattle.compress.specs.declared.Refusal.TheVariants as refusal
use Rattle.compress.specs.Layout.{Layout, put, store_from, store, rows}
use Rattle.compress.specs.Points.{given}
use Rattle.compress.specs.Records.{pick, first_of, last_of}
use Rattle.compress.specs.Rows.{t0_place, t1_place, floats_per_edge, numbers_per_edge, floats_per_vertex, numbers_per_vertex, edge_kind_at, curve_of, edge_of, edge_at, vertex_at, edge_number_layout, edge_float_layout, vertex_number_layout, vertex_float_layout}
use Rattle.compress.specs.Shell.{Shell, Lent, load, vertices_fit, edges_fit}
use Rattle.compress.specs.Wires.{wires_of}
use Rattle.compress.proofs.Layouts.{length_rows, store_append, store_set}
use Rattle.compress.proofs.Room.{vertices_room, edges_room}
use Rattle.compress.proofs.Rows.{edge_numbers_fit, edge_floats_fit, edge_numbers_stand, edge_floats_stand}
use Rattle.checks.specs.Causes.{edge_number_cause, lower_of, when}
use Rattle.checks.proofs.Accepted.{passed, not_when}
use Rattle.checks.proofs.Lowest.{lower_none}
use Rattle.cutting.specs.declared.mending.NoRoom.{NoRoom}
use Rattle.cutting.specs.mending.Steps.{InPlace, count_told}
use Rattle.cutting.specs.Contract.{lent_of, leaves, input_cause}
use Rattle.cutting.specs.cut_edge.Cut.{halves_of}
use Rattle.cutting.proofs.Outcome.{Accepted, accepted, result_full, result_done, vertices_stand}
use Rattle.pieces.specs.Pieces.{mended, parts_of}
use Rattle.edge_cuts.specs.declared.cuts.Cut.{Cut}
use Rattle.edge_cuts.specs.cuts.Cuts.{floats_per_cut, cuts_cause}
use Rattle.edge_cuts.specs.Cut.{pieces_at, with_pieces, points_of, cut_at_points}
use Rattle.edge_cuts.specs.Contract.{edge_cuts_cause, points_outcome}
use Rattle.edge_cuts.specs.laying.Laid.{laid_from}

-- ---- the range of an edge's curve, in its row
by_first : (b : Bool) (c d : Curve) → first_of c ≡ first_of d → first_of (pick b c d) ≡ first_of d
by_first true c d p = p
by_first false c d p = refl

by_last : (b : Bool) (c d : Curve) → last_of c ≡ last_of d → last_of (pick b c d) ≡ last_of d
by_last true c d p = p
by_last false c d p = refl

first_at : (en : List ℕ) (ef : List Float) (i : ℕ) → first_of (edge_at en ef i).curve ≡ get_or ef (i * floats_per_edge + t0_place) nan
unfolding edge_of curve_of
first_at en ef i = by_first (eqb (edge_kind_at en i) 0) _ _ refl

last_at : (en : List ℕ) (ef : List Float) (i : ℕ) → last_of (edge_at en ef i).curve ≡ get_or ef (i * floats_per_edge + t1_place) nan
unfolding edge_of curve_of
last_at en ef i = by_last (eqb (edge_kind_at en i) 0) _ _ refl

-- the cause of a call, from what its steps gave: t0 and t1 bound the edge's curve
pub cause_found : (l : Lent) (i : ℕ) (cs : List Float) (n : ℕ) {t0 t1 : Float} {s e c d r : ℕ}
    → t0 ≡ get_or l.slices.ef (i * floats_per_edge + t0_place) nan → t1 ≡ get_or l.slices.ef (i * floats_per_edge + t1_place) nan
    → s ≡ input_cause l → e ≡ edge_number_cause l.edges i → c ≡ cuts_cause t0 t1 cs n → d ≡ lower_of e c → r ≡ lower_of s d
    → r ≡ edge_cuts_cause l i cs n
unfolding edge_cuts_cause
cause_found l i cs n p q hs he hc hd hr =
    rw (first_at l.slices.en l.slices.ef i, last_at l.slices.en l.slices.ef i) (rw (hr, hd, hc, he, hs, p, q))

-- where there is none: the shell has none, the edge is one of its edges, and the cuts are lent
pub call_checked : (l : Lent) (i : ℕ) (cs : List Float) (n : ℕ) → edge_cuts_cause l i cs n ≡ 0
    → (input_cause l ≡ 0) × (i < l.edges) × (n * floats_per_cut ≤ length cs)
unfolding edge_cuts_cause cuts_cause
call_checked l i cs n z =
    let t0 = first_of (edge_at l.slices.en l.slices.ef i).curve in
    let t1 = last_of (edge_at l.slices.en l.slices.ef i).curve in
    let a = lower_none (input_cause l) _ z in
    let b = lower_none (when (leb l.edges i) 3) (cuts_cause t0 t1 cs n) a.1 in
    (a.0, leb-false l.edges i (not_when (leb l.edges i) 2 b.0), ltb-false (length cs) (n * floats_per_cut) (passed (ltb (length cs) (n * floats_per_cut)) _ b.1).0)

-- ---- how many pieces
pub length_pieces : (e : Edge) (cs : List Cut) (n : ℕ) → length (pieces_at e cs n) ≡ 1 + length cs
unfolding pieces_at
length_pieces e [] n = omega arith
length_pieces e (c ∷ cs) n = omega (arith, length_pieces (halves_of e c.t n).new cs (n + 1))

pub length_with : (es : List Edge) (i : ℕ) (ps : List Edge) (k : ℕ) → length ps ≡ 1 + k → length (with_pieces es i ps) ≡ length es + k
length_with es i [] k h = absurd (omega arith)
length_with es i (p ∷ ps) k h = length-append (set es i p) ps ∙ omega (arith, length-set es i p)

pub length_points : (cs : List Cut) → length (points_of cs) ≡ length cs
length_points cs = length-map cs (λ c. given c.point)

module _ (vn : List ℕ) (vf : List Float) (en : List ℕ) (ef : List Float) (us ls : List ℕ) (v e w i : ℕ) (cs : List Cut) where
  abbrev edge_in : Edge
  edge_in = edge_at en ef i

  abbrev after : Shell
  after = cut_at_points (load (lent_of vn vf en ef us ls v e w)) i edge_in cs

  module _ (z : input_cause (lent_of vn vf en ef us ls v e w) ≡ 0) (n : ℕ) (n_is : length cs ≡ n) (room : ℕ)
      (has : (k : ℕ) → leb k room ≡ (vertices_fit vn vf (v + k) && edges_fit en ef (e + k)))
      (us' ls' : List ℕ) (m : Result ℕ NoRoom) (M : InPlace (mended (parts_of i e n) (wires_of us (take w ls))) (leb n room) us ls us' ls' m) where
    A : Accepted vn vf en ef us ls v e w
    A = accepted vn vf en ef us ls v e w z

    lv : length (rows (vertex_at vn vf) 0 v) ≡ v
    lv = length_rows (vertex_at vn vf) 0 v

    le : length (rows (edge_at en ef) 0 e) ≡ e
    le = length_rows (edge_at en ef) 0 e

    vertices_are : length after.vertices ≡ v + n
    unfolding cut_at_points load
    vertices_are = length-append (rows (vertex_at vn vf) 0 v) (points_of cs) ∙ rw lv (omega (arith, length_points cs))

    edges_are : length after.edges ≡ e + n
    unfolding cut_at_points load
    edges_are =
        let ps = pieces_at edge_in cs (length (rows (vertex_at vn vf) 0 v)) in
        length_with (rows (edge_at en ef) 0 e) i ps n (length_pieces edge_in cs _ ∙ omega (arith, n_is)) ∙ omega (arith, le)

    mended_is : InPlace after.wires (leb n room) us ls us' ls' m
    unfolding cut_at_points load
    mended_is = rw (le, n_is) M

    -- no room: 6, and nothing written
    pub outcome_full : (x : NoRoom) → m ≡ Err x
        → leaves (Err refusal.NoRoom) vn vf en ef us' ls' ≡ points_outcome (lent_of vn vf en ef us ls v e w) i cs
    unfolding points_outcome
    outcome_full x q = result_full vn vf en ef us ls v e w after n vertices_are edges_are room has us' ls' m mended_is (rw q)

    -- room: a row for each new vertex and each new edge
    pub places : (r : ℕ) → m ≡ Ok r → ((v + n ≤ 4096) × ((v + n) * numbers_per_vertex ≤ length vn) × ((v + n) * floats_per_vertex ≤ length vf))
        × ((e + n ≤ 4096) × ((e + n) * numbers_per_edge ≤ length en) × ((e + n) * floats_per_edge ≤ length ef))
    places r q =
        let t : is_ok m ≡ true = rw q in
        let f = and_parts (vertices_fit vn vf (v + n)) (edges_fit en ef (e + n)) (sym (has n) ∙ (and_parts (leb n room) _ (sym M.fits ∙ t)).0) in
        (vertices_room vn vf (v + n) f.0, edges_room en ef (e + n) f.1)

    -- the edges lent, stored again with the pieces: one row is put, and others from row e on
    laid : {B : Type 0} (l : Layout B Edge) (s : List B) → ((p : Edge) → store_from l s 0 (set (rows (edge_at en ef) 0 e) i p) ≡ put l s i p)
        → (ps : List Edge) → (ps ≡ [] → ⊥) → store_from l s 0 (with_pieces (rows (edge_at en ef) 0 e) i ps) ≡ laid_from l s i e ps
    laid l s one [] ne = absurd (ne refl)
    laid l s one (p ∷ ps) ne =
        let k : 0 + length (set (rows (edge_at en ef) 0 e) i p) ≡ e = omega (arith, length-set (rows (edge_at en ef) 0 e) i p, le) in
        store_append l (set (rows (edge_at en ef) 0 e) i p) ps s 0 ∙ rw (k, one p)

    filled : (ps : List Edge) (k : ℕ) → length ps ≡ 1 + k → ps ≡ [] → ⊥
    filled ps k h p = let q = ap length p in omega arith

    -- the result, stored: the points are put behind the vertices, and the pieces in their rows
    tables : i < e → (store vertex_number_layout vn after.vertices ≡ store_from vertex_number_layout vn v (points_of cs))
        × (store vertex_float_layout vf after.vertices ≡ store_from vertex_float_layout vf v (points_of cs))
        × (store edge_number_layout en after.edges ≡ laid_from edge_number_layout en i e (pieces_at edge_in cs v))
        × (store edge_float_layout ef after.edges ≡ laid_from edge_float_layout ef i e (pieces_at edge_in cs v))
    unfolding cut_at_points load
    tables lt =
        let s = vertices_stand vn vf en ef us ls v e w A (points_of cs) in
        let ps = pieces_at edge_in cs v in
        let ne = filled ps (length cs) (length_pieces edge_in cs v) in
        let z : 0 + i ≡ i = omega arith in
        let one : (p : Edge) → store_from edge_number_layout en 0 (set (rows (edge_at en ef) 0 e) i p) ≡ put edge_number_layout en i p
        = λ p. rw z at (store_set edge_number_layout edge_numbers_fit en (edge_at en ef) 0 e i p lt (λ j lo hi. edge_numbers_stand en ef j (A.edges.known j (omega arith)))) in
        let two : (p : Edge) → store_from edge_float_layout ef 0 (set (rows (edge_at en ef) 0 e) i p) ≡ put edge_float_layout ef i p
        = λ p. rw z at (store_set edge_float_layout edge_floats_fit ef (edge_at en ef) 0 e i p lt (λ j lo hi. edge_floats_stand en ef j)) in
        (s.0, s.1, rw lv (laid edge_number_layout en one ps ne), rw lv (laid edge_float_layout ef two ps ne))

    pub outcome_done : (vn' : List ℕ) (vf' : List Float) (en' : List ℕ) (ef' : List Float) (r : ℕ) → m ≡ Ok r → i < e
        → vn' ≡ store_from vertex_number_layout vn v (points_of cs) → vf' ≡ store_from vertex_float_layout vf v (points_of cs)
        → en' ≡ laid_from edge_number_layout en i e (pieces_at edge_in cs v) → ef' ≡ laid_from edge_float_layout ef i e (pieces_at edge_in cs v)
        → leaves (Ok (record { vertices = v + n; edges = e + n; uses = r })) vn' vf' en' ef' us' ls' ≡ points_outcome (lent_of vn vf en ef us ls v e w) i cs
    unfolding points_outcome
    outcome_done vn' vf' en' ef' r q lt ev evf ee eef =
        let s = tables lt in
        let t : is_ok m ≡ true = rw q in
        let k : count_told m ≡ r = rw q in
        rw (← k) (result_done vn vf en ef us ls v e w after n vertices_are edges_are room has us' ls' m mended_is vn' vf' en' ef' t (ev ∙ sym s.0) (evf ∙ sym s.1) (ee ∙ sym s.2) (eef ∙ sym s.3))
