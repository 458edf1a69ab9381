-- The definition of the call, from what its steps gave: on each of its ways out the answer and every slice are those of `outcome_of`.
-- Assumes nothing.
use mathlib.Core.Path.{◌≡◌, refl, ap, sym, ◌∙◌}
use mathlib.Core.Bool.{Bool, true, false, ◌&&◌}
use mathlib.Core.List.{List, [], ◌∷◌, ◌++◌}
use Prim.Native.Nat.{ℕ, zero, suc, ◌+◌, ◌*◌, ◌≤◌, ◌<◌}
use native.Mathlib.Omega.{arith}
use lib.ListN.{length, get_or, take, drop, length-append}
use lib.Seq.{take_at}
use lib.Dec.{leb}
use lib.Ieee.{Float}
use Rattle.compress.specs.declared.Curve.{Curve}
use Rattle.compress.specs.declared.Edge.{Edge}
use Rattle.compress.specs.Records.{closed, pick}
use Rattle.compress.specs.Layout.{rows, store}
use Rattle.compress.specs.declared.Refusal.{Refusal}
use Rattle.compress.specs.Refusals.{refusal_number}
use Rattle.compress.specs.Rows.{numbers_per_edge, edge_at, vertex_at, edge_number_layout, edge_float_layout, vertex_number_layout, vertex_float_layout}
use Rattle.compress.specs.Shell.{Shell, load, vertices_fit, edges_fit}
use Rattle.compress.specs.Wires.{wires_of}
use Rattle.compress.proofs.Layouts.{length_rows}
use Rattle.std.proofs.lemmas.Bool.{and_parts}
use Rattle.compress.proofs.Room.{vertices_room, edges_room}
use Rattle.compress.proofs.Refused.{cause_met}
use Rattle.checks.specs.Causes.{vertex_number_cause, curve_cause, edge_cause, wires_cause}
use Rattle.checks.proofs.Lowest.{lower_none}
use Rattle.split_closed_edges.specs.add_edges.Add.{next, new_edge, new_vertex, kept_edges, new_edges, new_vertices, added_to}
use Rattle.cutting.specs.mending.Replace.{replace_wires}
use Rattle.split_closed_edges.specs.Pass.{split_closed_edges}
use Rattle.split_closed_edges.specs.add_edges.Steps.{closed_count, Addable, Added, Marked}
use Rattle.split_closed_edges.specs.Steps.{closed_in, uses_told, ClosedMended}
use Rattle.cutting.specs.mending.Steps.{AreNumbers, InPlace, count_told}
use Rattle.cutting.specs.Contract.{turned_away, lent_of, leaves, input_cause}
use Rattle.cutting.specs.parameter.Eighths.{eighths_cause, parameter_of}
use Rattle.split_closed_edges.specs.Contract.{outcome_of}
use Rattle.split_closed_edges.proofs.add_edges.Edges.{length_kept}
use Rattle.compress.specs.declared.Refusal.TheVariants as refusal
use Rattle.std.specs.Prelude.{Option, Some, None, IfSome, Result, Ok, Err, is_ok}
use Rattle.split_closed_edges.specs.declared.Closing.{Closing}
use Rattle.cutting.specs.declared.mending.NoRoom.{NoRoom}
use Rattle.cutting.proofs.Outcome.{Accepted, accepted, no_cause, vertices_stand, result_full, result_done}

-- ---- as many new edges and new vertices as closed edges
new_edge_length : (at : Curve → Float) (b : Bool) (n : ℕ) (e : Edge) (es : List Edge) (k : ℕ) → length es ≡ k → length (new_edge at b n e ++ es) ≡ next b k
new_edge_length at true n e es k p = omega arith
new_edge_length at false n e es k p = p

pub length_new : (at : Curve → Float) (es : List Edge) (n : ℕ) → length (new_edges at n es) ≡ closed_count es
unfolding new_edges closed_count
length_new at [] n = refl
length_new at (e ∷ es) n = new_edge_length at (closed e) n e (new_edges at (next (closed e) n) es) (closed_count es) (length_new at es (next (closed e) n))

new_vertex_length : (at : Curve → Float) (b : Bool) (e : Edge) (es : List Edge) (k : ℕ) → length (new_vertices at es) ≡ k → length (new_vertex at b e ++ new_vertices at es) ≡ next b k
new_vertex_length at true e es k p = omega arith
new_vertex_length at false e es k p = p

pub length_vertices : (at : Curve → Float) (es : List Edge) → length (new_vertices at es) ≡ closed_count es
unfolding new_vertices closed_count
length_vertices at [] = refl
length_vertices at (e ∷ es) = new_vertex_length at (closed e) e es (closed_count es) (length_vertices at es)

pub count_le : (es : List Edge) → closed_count es ≤ length es
unfolding closed_count
count_le [] = omega arith
count_le (e ∷ es) = step (closed e) (closed_count es) (length es) (count_le es)
  where
    step : (b : Bool) (k n : ℕ) → k ≤ n → next b k ≤ suc n
    step true k n h = omega arith
    step false k n h = omega arith

-- the numbers of the map are small
pub added_small : (es : List Edge) (m bound k : ℕ) → m + length es ≤ bound → IfSome (get_or (added_to m es) k None) (λ a. a < bound)
unfolding added_to
added_small [] m bound k h = tt
added_small (e ∷ es) m bound zero h = here (closed e)
  where
    here : (b : Bool) → IfSome (pick b (Some m) None) (λ a. a < bound)
    here true = omega arith
    here false = tt
added_small (e ∷ es) m bound (suc k) h = added_small es (next (closed e) m) bound k (there (closed e))
  where
    there : (b : Bool) → next b m + length es ≤ bound
    there true = omega arith
    there false = omega arith

pub length_added : (es : List Edge) (m : ℕ) → length (added_to m es) ≡ length es
unfolding added_to
length_added [] m = refl
length_added (e ∷ es) m = ap suc (length_added es (next (closed e) m))

-- ---- the map and the wires

module _ (en : List ℕ) (edges : ℕ) (before added : List (Option ℕ)) (cuts : ℕ)
    (M : (ef : List Float) → Marked (rows (edge_at en ef) 0 edges) before added cuts) (ef : List Float) where
  abbrev es : List Edge
  es = rows (edge_at en ef) 0 edges

  les : length es ≡ edges
  les = length_rows (edge_at en ef) 0 edges

  -- the front of the table is the map
  pub marked_map : take edges added ≡ added_to (length es) es
  marked_map =
      let l : length (added_to (length es) es) ≡ edges = length_added es (length es) ∙ les in
      rw (M ef).map (take_at (added_to (length es) es) (drop (length es) before) edges l)

  pub map_mends : (us ls : List ℕ) (wires : ℕ) → edges ≤ 4096 → wires_cause edges us ls wires ≡ 0
      → (wires_cause (length (take edges added)) us ls wires ≡ 0) × AreNumbers (take edges added)
  map_mends us ls wires h z =
      let l : length (take edges added) ≡ edges = rw marked_map (length_added es (length es) ∙ les) in
      (rw l z, λ k. rw marked_map (added_small es (length es) 2147483648 k (omega (arith, les, h))))

-- What `mend_closed` comes to, from the count of closed edges and what the mending told.
module _ (en : List ℕ) (edges : ℕ) (us ls : List ℕ) (wires room : ℕ) (before added : List (Option ℕ)) (cuts : ℕ)
    (M : (ef : List Float) → Marked (rows (edge_at en ef) 0 edges) before added cuts) (us' ls' : List ℕ) (r : Result ℕ NoRoom)
    (I : InPlace (replace_wires (take edges added) (wires_of us (take wires ls))) (leb cuts room) us ls us' ls' r) where
  by_map : (ef : List Float) → InPlace (replace_wires (added_to (length (rows (edge_at en ef) 0 edges)) (rows (edge_at en ef) 0 edges)) (wires_of us (take wires ls)))
      (leb (closed_in en ef edges) room) us ls us' ls' r
  by_map ef = rw (← (M ef).count, ← marked_map en edges before added cuts M ef) I

  pub closed_done : (n : ℕ) → r ≡ Ok n → ClosedMended en edges wires room us ls us' ls' (Ok (record { cuts = cuts; uses = n }))
  closed_done n q = record { cut = λ ef. (M ef).count; mended = λ ef. rw q at (by_map ef) }

  pub closed_full : (e : NoRoom) → r ≡ Err e → ClosedMended en edges wires room us ls us' ls' (Err e)
  closed_full e q = record { cut = λ ef. tt; mended = λ ef. rw q at (by_map ef) }

-- the curve of an edge without a cause has none
edge_passes : (v : ℕ) (e : Edge) → edge_cause v e ≡ 0 → curve_cause e.curve ≡ 0
unfolding edge_cause
edge_passes v e q = (lower_none (vertex_number_cause v e.back) _ (lower_none (vertex_number_cause v e.front) _ q).1).1

-- ---- the ways out of the call

module _ (vn : List ℕ) (vf : List Float) (en : List ℕ) (ef : List Float) (us ls : List ℕ) (v e w k : ℕ) where
  -- a cause: its refusal, and nothing written
  pub outcome_cause : (r : Refusal) → refusal_number r ≡ input_cause (lent_of vn vf en ef us ls v e w)
      → leaves (Err r) vn vf en ef us ls ≡ outcome_of k (lent_of vn vf en ef us ls v e w)
  unfolding outcome_of
  outcome_cause r q = cause_met r _ (turned_away _) _ q

  -- no such cause, and no k from 1 to 7: 18, and nothing written
  pub outcome_eighths : (r : Refusal) → input_cause (lent_of vn vf en ef us ls v e w) ≡ 0 → refusal_number r ≡ eighths_cause k
      → leaves (Err r) vn vf en ef us ls ≡ outcome_of k (lent_of vn vf en ef us ls v e w)
  unfolding outcome_of
  outcome_eighths r z q = rw z (cause_met r (eighths_cause k) (turned_away _) _ q)

  -- the wires can be mended
  pub closable : input_cause (lent_of vn vf en ef us ls v e w) ≡ 0 → (e ≤ 4096) × (e * numbers_per_edge ≤ length en) × (wires_cause e us ls w ≡ 0)
  closable z =
      let A = accepted vn vf en ef us ls v e w z in
      (A.edges.below, A.edges.numbers, (no_cause vn vf en ef us ls v e w z).2)

  abbrev edges_in : List Edge
  edges_in = rows (edge_at en ef) 0 e

  abbrev after : Shell
  after = split_closed_edges (parameter_of k) (load (lent_of vn vf en ef us ls v e w))

  module _ (z : input_cause (lent_of vn vf en ef us ls v e w) ≡ 0) (s : eighths_cause k ≡ 0) (room : ℕ)
      (has : (j : ℕ) → leb j room ≡ (vertices_fit vn vf (v + j) && edges_fit en ef (e + j)))
      (us' ls' : List ℕ) (m : Result Closing NoRoom) (M : ClosedMended en e w room us ls us' ls' m) where
    A : Accepted vn vf en ef us ls v e w
    A = accepted vn vf en ef us ls v e w z

    abbrev pub cuts : ℕ
    cuts = closed_count edges_in

    cuts_le : cuts ≤ 4096
    cuts_le = omega (arith, count_le edges_in, length_rows (edge_at en ef) 0 e, A.edges.below)

    vertices_are : length after.vertices ≡ v + cuts
    unfolding split_closed_edges load
    vertices_are =
        let lv : length (rows (vertex_at vn vf) 0 v) ≡ v = length_rows (vertex_at vn vf) 0 v in
        length-append (rows (vertex_at vn vf) 0 v) (new_vertices (parameter_of k) edges_in) ∙ omega (arith, lv, length_vertices (parameter_of k) edges_in)

    edges_are : length after.edges ≡ e + cuts
    unfolding split_closed_edges load
    edges_are =
        let n = length (rows (vertex_at vn vf) 0 v) in
        let le : length edges_in ≡ e = length_rows (edge_at en ef) 0 e in
        length-append (kept_edges (parameter_of k) n edges_in) (new_edges (parameter_of k) n edges_in) ∙ omega (arith, le, length_kept (parameter_of k) edges_in n, length_new (parameter_of k) edges_in n)

    mended : InPlace after.wires (leb cuts room) us ls us' ls' (uses_told m)
    unfolding split_closed_edges load
    mended = M.mended ef

    -- no room: 6, and nothing written
    pub outcome_full : (x : NoRoom) → m ≡ Err x → leaves (Err refusal.NoRoom) vn vf en ef us' ls' ≡ outcome_of k (lent_of vn vf en ef us ls v e w)
    unfolding outcome_of
    outcome_full x q = rw (z, s) (result_full vn vf en ef us ls v e w after cuts vertices_are edges_are room has us' ls' _ mended (rw q))

    -- room: every table can be written
    module _ (x : Closing) (q : m ≡ Ok x) where
      told : is_ok (uses_told m) ≡ true
      told = rw q

      pub cuts_are : x.cuts ≡ cuts
      cuts_are = rw q at (M.cut ef)

      pub cuts_few : x.cuts ≤ 4096
      cuts_few = omega (arith, cuts_are, cuts_le)

      fit : (vertices_fit vn vf (v + cuts) ≡ true) × (edges_fit en ef (e + cuts) ≡ true)
      fit = and_parts (vertices_fit vn vf (v + cuts)) (edges_fit en ef (e + cuts)) (sym (has cuts) ∙ (and_parts (leb cuts room) _ (sym (M.mended ef).fits ∙ told)).0)

      pub addable : Addable v e vn vf en ef
      addable =
          let a = vertices_room vn vf (v + cuts) fit.0 in
          let b = edges_room en ef (e + cuts) fit.1 in
          record {
            below = omega arith;
            vertex_numbers = omega arith;
            vertex_floats = omega arith;
            edge_numbers = omega arith;
            edge_floats = omega arith;
            known = A.edges.known;
            vertices = A.vertices.rows;
            curves = λ j h. edge_passes v (edge_at en ef j) (A.edges.rows j h);
          }

    -- what `add_edges` left is the result, stored
    tables : (vn' : List ℕ) (vf' : List Float) (en' : List ℕ) (ef' : List Float) → Added (parameter_of k) v e vn vf en ef vn' vf' en' ef'
        → (vn' ≡ store vertex_number_layout vn after.vertices) × (vf' ≡ store vertex_float_layout vf after.vertices)
        × (en' ≡ store edge_number_layout en after.edges) × (ef' ≡ store edge_float_layout ef after.edges)
    unfolding split_closed_edges load
    tables vn' vf' en' ef' T =
        let lv : length (rows (vertex_at vn vf) 0 v) ≡ v = length_rows (vertex_at vn vf) 0 v in
        let p = vertices_stand vn vf en ef us ls v e w A (new_vertices (parameter_of k) edges_in) in
        (rw p.0 T.vertex_numbers, rw p.1 T.vertex_floats, rw lv T.edge_numbers, rw lv T.edge_floats)

    pub outcome_done : (x : Closing) → m ≡ Ok x → (vn' : List ℕ) (vf' : List Float) (en' : List ℕ) (ef' : List Float) → Added (parameter_of k) v e vn vf en ef vn' vf' en' ef'
        → leaves (Ok (record { vertices = v + x.cuts; edges = e + x.cuts; uses = x.uses })) vn' vf' en' ef' us' ls' ≡ outcome_of k (lent_of vn vf en ef us ls v e w)
    unfolding outcome_of
    outcome_done x q vn' vf' en' ef' T =
        let p = tables vn' vf' en' ef' T in
        let t : count_told (uses_told m) ≡ x.uses = rw q in
        rw (cuts_are x q, ← t, z, s) (result_done vn vf en ef us ls v e w after cuts vertices_are edges_are room has us' ls' _ mended vn' vf' en' ef' (told x q) p.0 p.1 p.2 p.3)
