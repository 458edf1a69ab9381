-- The definition of the call, from what its steps gave: on each of its ways out the answer and every slice are those of `split_outcome`.
-- Assumes nothing.
use mathlib.Core.Path.{◌≡◌, refl, ap, sym, ◌∙◌}
use mathlib.Core.Bool.{Bool, true, false}
use mathlib.Core.List.{List, ◌++◌}
use Prim.Native.Nat.{ℕ, zero, suc, ◌+◌, ◌-◌, ◌*◌, ◌/◌, ◌%◌, ◌≤◌, ◌<◌}
use native.Mathlib.Omega.{arith}
use native.Mathlib.Decide.{dec_lt}
use borrow.Author.Tests.{le-ltb}
use lib.Dec.{eqb}
use lib.ListN.{length, get_or, take, length-append, get_or-eq_default}
use lib.Seq.{length-take-le, get_or-take}
use Rattle.compress.specs.declared.Edge.{Edge}
use Rattle.compress.specs.declared.Refusal.{Refusal}
use Rattle.compress.specs.Layout.{store_from, rows}
use Rattle.compress.specs.Records.{pick, front_of, back_of, front_at, back_at}
use Rattle.compress.specs.Refusals.{refusal_number}
use Rattle.compress.specs.Rows.{numbers_per_edge, edge_of, edge_at, edge_number_layout, edge_float_layout}
use Rattle.compress.proofs.Layouts.{length_rows, rows_agree, store_append, store_same}
use Rattle.compress.proofs.Room.{edges_room}
use Rattle.compress.proofs.Rows.{edge_numbers_stand, edge_floats_stand}
use Rattle.checks.proofs.Accepted.{edge_ends}
use Rattle.walk.specs.lists.Ends.{end_of}
use Rattle.walk.specs.Walk.{Answer, wires}
use Rattle.walk.specs.Table.{table_walk}
use Rattle.walk.proofs.Same.{same}
use Rattle.std.proofs.Common.{Err}
use Rattle.compress.proofs.Refused.{number_above}
use Rattle.split.specs.seams.Seams.{stop_at, seams_of}
use Rattle.walk.specs.marks.Marks.{new_uses, marked_by}
use Rattle.split.specs.Split.{seams, edges_after, no_edge, edge_after, front_after, back_after, uses_to_walk, marked_in, split_wires}
use Rattle.split.specs.split_causes.Causes.{LentSplit, face_total, rebuilt_total, pairs, split_cause}
use Rattle.split.specs.Contract.{leaves_split, given_in, split_stored, SplitOutcome, after_walk, split_outcome}
use Rattle.walk.specs.marks.Walking.{Walkable, lent_walk}
use Rattle.split.specs.Steps.{Roomy, after_lent}
use Rattle.split.proofs.split_causes.Accepted.{SplitChecked, split_checked}
use Rattle.split.specs.Demand.{KeepsUses}
use Rattle.split.proofs.Demand.{call_keeps}
use Rattle.split.proofs.Fronts.{length_seams, length_edges, length_after, paired, front_lent, back_lent, uses_known, front_below}
use Rattle.walk.specs.lists.Ends as ends
use Rattle.walk.specs.Walk as walk

module _ (l : LentSplit) (C : SplitChecked l) where
  -- what the walk is lent of the wires and of the divisor
  abbrev pub face_in : List ℕ
  face_in = take (face_total l) l.face_uses

  abbrev pub rebuilt_in : List ℕ
  rebuilt_in = take (rebuilt_total l) l.rebuilt_uses

  abbrev pub stops_in : List ℕ
  stops_in = take l.stops l.divisor

  size_face : length face_in ≡ face_total l
  size_face = length-take-le (face_total l) l.face_uses C.accepted.face_uses

  size_rebuilt : length rebuilt_in ≡ rebuilt_total l
  size_rebuilt = length-take-le (rebuilt_total l) l.rebuilt_uses C.accepted.rebuilt_uses

  size_stops : length stops_in ≡ l.stops
  size_stops = length-take-le l.stops l.divisor C.accepted.stops_lent

  row_ends : (e j : ℕ) → e < l.edges → j < 2 → get_or l.buffers.en (e * numbers_per_edge + j) 0 < 4096
  unfolding edge_of
  row_ends e zero h g =
      let p : e * numbers_per_edge + 0 ≡ e * numbers_per_edge = omega arith in
      rw p (omega (arith, edge_ends l.vertices (edge_at l.buffers.en l.buffers.ef e) (C.accepted.edges.rows e h), C.accepted.vertices))
  row_ends e (suc zero) h g = omega (arith, edge_ends l.vertices (edge_at l.buffers.en l.buffers.ef e) (C.accepted.edges.rows e h), C.accepted.vertices)
  row_ends e (suc (suc j)) h g = absurd (omega arith)

  walkable : Walkable l.buffers.en l.edges face_in rebuilt_in stops_in (pairs l)
  walkable =
      let A = C.accepted in
      let room = edges_room l.buffers.en l.buffers.ef (l.edges + pairs l) C.room.edges in
      record {
        few = omega (arith, size_rebuilt, C.room.few);
        face_few = omega (arith, size_face, A.few);
        below = room.0;
        rows = A.edges.numbers;
        paired = size_stops ∙ C.even;
        face_known = λ k h.
            let g : k < face_total l = omega (arith, size_face) in
            rw (get_or-take (face_total l) l.face_uses k 0 g) (A.face_known k g);
        rebuilt_known = λ k h.
            let g : k < rebuilt_total l = omega (arith, size_rebuilt) in
            rw (get_or-take (rebuilt_total l) l.rebuilt_uses k 0 g) (A.rebuilt_known k g);
        ends = row_ends;
        stops = λ k h.
            let g : k < l.stops = omega (arith, C.even) in
            rw (get_or-take l.stops l.divisor k 0 g) (omega (arith, A.stops_known k g, A.vertices));
      }

  roomy : Roomy l.buffers l.edges (length rebuilt_in + pairs l * 2) (pairs l) l.points
  roomy =
      let room = edges_room l.buffers.en l.buffers.ef (l.edges + pairs l) C.room.edges in
      record {
        uses = omega (arith, size_rebuilt, C.room.uses);
        lengths = omega (arith, size_rebuilt, C.room.lengths);
        numbers = room.1;
        floats = room.2;
        points = omega (arith, C.even, C.accepted.points_lent);
      }

  -- ---- fronts and backs are the same for every number, those of no edge too
  paired_is : paired l ≡ stops_in
  paired_is = ap (λ (n : ℕ). take n l.divisor) (sym C.even)

  no_edge_past : (e : ℕ) → l.edges + pairs l ≤ e → edge_after (given_in l) e ≡ no_edge
  no_edge_past e h = get_or-eq_default (edges_after (given_in l)) no_edge {n = e} (omega (arith, length_after l))

  no_end : (e j : ℕ) → l.edges + pairs l ≤ e → end_of l.buffers.en stops_in l.edges e j ≡ 0
  unfolding end_of
  no_end e j h =
      rw (le-ltb e l.edges (omega arith))
      (get_or-eq_default stops_in 0 {n = (e - l.edges) * 2 + j} (omega (arith, size_stops, C.even)))

  alike : (b : Bool) → ◌≡◌ {A = ℕ} (pick b 0 0) 0
  alike true = refl
  alike false = refl

  front_all : (u : ℕ) → front_after (given_in l) u ≡ ends.front_of l.buffers.en stops_in l.edges u
  unfolding front_at front_of
  front_all u = by (dec_lt (u / 2) (l.edges + pairs l))
    where
      by : Dec (u / 2 < l.edges + pairs l) → front_after (given_in l) u ≡ ends.front_of l.buffers.en stops_in l.edges u
      by (yes lt) = front_lent l u lt ∙ rw paired_is
      by (no past) = rw (no_edge_past (u / 2) (omega (arith, past)), no_end (u / 2) (u % 2) (omega (arith, past))) (alike (eqb (u % 2) 0))

  back_all : (u : ℕ) → back_after (given_in l) u ≡ ends.back_of l.buffers.en stops_in l.edges u
  unfolding back_at back_of
  back_all u = by (dec_lt (u / 2) (l.edges + pairs l))
    where
      by : Dec (u / 2 < l.edges + pairs l) → back_after (given_in l) u ≡ ends.back_of l.buffers.en stops_in l.edges u
      by (yes lt) = back_lent l u lt ∙ rw paired_is
      by (no past) = rw (no_edge_past (u / 2) (omega (arith, past)), no_end (u / 2) (1 - u % 2) (omega (arith, past))) (alike (eqb (u % 2) 0))

  -- ---- the seams
  abbrev pub seams_in : List Edge
  seams_in = seams_of l.surface (rows (stop_at stops_in l.points) 0 (pairs l * 2))

  seams_same : seams (given_in l) ≡ seams_in
  unfolding given_in
  seams_same =
      let r : rows (stop_at l.divisor l.points) 0 l.stops ≡ rows (stop_at stops_in l.points) 0 l.stops
      = rows_agree (stop_at l.divisor l.points) (stop_at stops_in l.points) 0 l.stops (λ j lo hi. rw (get_or-take l.stops l.divisor j 0 (omega arith))) in
      rw (r, ← C.even)

  edges_in : (given_in l).edges ≡ rows (edge_at l.buffers.en l.buffers.ef) 0 l.edges
  unfolding given_in
  edges_in = refl

  -- ---- the walk off the lent slices is the walk of the definition
  vertices_in : (given_in l).vertices ≡ l.vertices
  unfolding given_in
  vertices_in = refl

  edges_are : edges_after (given_in l) ≡ rows (edge_at l.buffers.en l.buffers.ef) 0 l.edges ++ seams_in
  edges_are = ap (λ (x : List Edge). x ++ seams (given_in l)) edges_in ∙ ap (λ (x : List Edge). rows (edge_at l.buffers.en l.buffers.ef) 0 l.edges ++ x) seams_same

  marked_same : marked_in (given_in l) ≡ marked_by face_in l.edges (pairs l)
  unfolding given_in
  marked_same =
      ap (λ (n : ℕ). marked_by face_in n (length (seams (given_in l)))) (length_edges l) ∙ ap (λ (n : ℕ). marked_by face_in l.edges n) (length_seams l)

  uses_same : uses_to_walk (given_in l) ≡ rebuilt_in ++ new_uses l.edges (pairs l)
  unfolding given_in
  uses_same =
      ap (λ (n : ℕ). rebuilt_in ++ new_uses n (length (seams (given_in l)))) (length_edges l)
      ∙ ap (λ (n : ℕ). rebuilt_in ++ new_uses l.edges n) (length_seams l)

  pub walk_same : split_wires (given_in l) ≡ lent_walk l.buffers.en l.edges face_in rebuilt_in stops_in (pairs l)
  unfolding split_wires lent_walk
  walk_same =
      let g = given_in l in
      let f : front_after g ≡ ends.front_of l.buffers.en stops_in l.edges = λ i u. front_all u i in
      let b : back_after g ≡ ends.back_of l.buffers.en stops_in l.edges = λ i u. back_all u i in
      let fits : (k : ℕ) → k < length (uses_to_walk g) → front_after g (get_or (uses_to_walk g) k 0) < l.vertices
      = λ k h. front_below l C.accepted (get_or (uses_to_walk g) k 0) (uses_known l C.accepted k h) in
      vertices_are ∙ same l.vertices (front_after g) (back_after g) (marked_in g) (uses_to_walk g) fits
      ∙ ap (λ (x : ℕ → ℕ). walk.walk x (back_after g) (marked_in g) (uses_to_walk g)) f
      ∙ ap (λ (x : ℕ → ℕ). walk.walk (ends.front_of l.buffers.en stops_in l.edges) x (marked_in g) (uses_to_walk g)) b
      ∙ ap (λ (x : ℕ → Bool). walk.walk (ends.front_of l.buffers.en stops_in l.edges) (ends.back_of l.buffers.en stops_in l.edges) x (uses_to_walk g)) marked_same
      ∙ ap (λ (x : List ℕ). walk.walk (ends.front_of l.buffers.en stops_in l.edges) (ends.back_of l.buffers.en stops_in l.edges) (marked_by face_in l.edges (pairs l)) x) uses_same
    where
      vertices_are : table_walk (given_in l).vertices (front_after (given_in l)) (back_after (given_in l)) (marked_in (given_in l)) (uses_to_walk (given_in l))
          ≡ table_walk l.vertices (front_after (given_in l)) (back_after (given_in l)) (marked_in (given_in l)) (uses_to_walk (given_in l))
      vertices_are = ap (λ (n : ℕ). table_walk n (front_after (given_in l)) (back_after (given_in l)) (marked_in (given_in l)) (uses_to_walk (given_in l))) vertices_in

  -- ---- the edges lent, stored again with the seams behind them, are themselves
  stored_same : (a : Answer) → after_walk (given_in l) l.buffers a ≡ after_lent l.buffers l.edges seams_in a
  unfolding split_stored
  stored_same (wires ws) =
      let es = rows (edge_at l.buffers.en l.buffers.ef) 0 l.edges in
      let le : 0 + length es ≡ l.edges = omega (arith, length_rows (edge_at l.buffers.en l.buffers.ef) 0 l.edges) in
      let p : store_from edge_number_layout l.buffers.en 0 es ≡ l.buffers.en
      = store_same edge_number_layout l.buffers.en (edge_at l.buffers.en l.buffers.ef) 0 l.edges (λ j lo hi. edge_numbers_stand l.buffers.en l.buffers.ef j (C.accepted.edges.known j (omega arith))) in
      let q : store_from edge_float_layout l.buffers.ef 0 es ≡ l.buffers.ef
      = store_same edge_float_layout l.buffers.ef (edge_at l.buffers.en l.buffers.ef) 0 l.edges (λ j lo hi. edge_floats_stand l.buffers.en l.buffers.ef j) in
      let n : store_from edge_number_layout l.buffers.en 0 (edges_after (given_in l)) ≡ store_from edge_number_layout l.buffers.en l.edges seams_in
      = rw edges_are (store_append edge_number_layout es seams_in l.buffers.en 0 ∙ rw (le, p)) in
      let m : store_from edge_float_layout l.buffers.ef 0 (edges_after (given_in l)) ≡ store_from edge_float_layout l.buffers.ef l.edges seams_in
      = rw edges_are (store_append edge_float_layout es seams_in l.buffers.ef 0 ∙ rw (le, q)) in
      let s : length (edges_after (given_in l)) ≡ l.edges + length seams_in = rw edges_are (length-append es seams_in ∙ rw (length_rows (edge_at l.buffers.en l.buffers.ef) 0 l.edges)) in
      rw (n, m, s)
  stored_same (walk.refused c) = refl

  -- no cause before the walk: what the walk comes to
  call_walked : (o : SplitOutcome) → split_cause l ≡ 0
      → o ≡ after_lent l.buffers l.edges seams_in (lent_walk l.buffers.en l.edges face_in rebuilt_in stops_in (pairs l)) → o ≡ split_outcome l
  unfolding split_outcome
  call_walked o z q =
      q ∙ ap (after_lent l.buffers l.edges seams_in) (sym walk_same) ∙ sym (stored_same (split_wires (given_in l))) ∙ rw z

  -- the same, of the counts of uses that the call has found
  module _ (n m : ℕ) (en : n ≡ face_total l) (em : m ≡ rebuilt_total l) where
    pub face_size : n ≡ length (take n l.face_uses)
    face_size = rw en (sym size_face)

    pub rebuilt_size : m ≡ length (take m l.rebuilt_uses)
    rebuilt_size = rw em (sym size_rebuilt)

    pub lent_walkable : Walkable l.buffers.en l.edges (take n l.face_uses) (take m l.rebuilt_uses) stops_in (pairs l)
    lent_walkable = rw (en, em) walkable

    pub lent_room : Roomy l.buffers l.edges (length (take m l.rebuilt_uses) + pairs l * 2) (pairs l) l.points
    lent_room = rw em roomy

    call_done : (o : SplitOutcome) → split_cause l ≡ 0
        → o ≡ after_lent l.buffers l.edges seams_in (lent_walk l.buffers.en l.edges (take n l.face_uses) (take m l.rebuilt_uses) stops_in (pairs l))
        → (o ≡ split_outcome l) × KeepsUses l o
    call_done o z q =
        let d : o ≡ split_outcome l = call_walked o z (rw (en, em) at q) in
        (d, call_keeps l o d)

  pub stops_size : l.stops ≡ length stops_in
  stops_size = sym size_stops

-- no cause was found before the walk
pub checked : (l : LentSplit) → 0 ≡ split_cause l → SplitChecked l
checked l e = split_checked l (sym e)

-- and the call leaves what the walk has left
pub call_told : (l : LentSplit) (e : 0 ≡ split_cause l) {n m : ℕ} → n ≡ face_total l → m ≡ rebuilt_total l → {o : SplitOutcome}
    → o ≡ after_lent l.buffers l.edges (seams_in l (checked l e)) (lent_walk l.buffers.en l.edges (take n l.face_uses) (take m l.rebuilt_uses) (stops_in l (checked l e)) (pairs l))
    → (o ≡ split_outcome l) × KeepsUses l o
call_told l e {n} {m} en em {o} q = call_done l (checked l e) n m en em o (sym e) q

-- a cause before the walk: its refusal, and nothing written
pub call_refused : (l : LentSplit) (r : Refusal) → refusal_number r ≡ split_cause l
    → leaves_split (Err r) l.buffers.en l.buffers.ef l.buffers.us l.buffers.ls ≡ split_outcome l
unfolding split_outcome
call_refused l r q = let p = number_above r in rw (← q, p.1)
