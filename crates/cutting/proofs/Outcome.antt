-- What the calls that cut edges share: an input without a cause, and the two ways out of a call that has none, in terms of its result.
-- Assumes nothing.
use mathlib.Core.Path.{◌≡◌, ◌∙◌}
use mathlib.Core.Bool.{true, false, ◌&&◌}
use mathlib.Core.List.{List, ◌++◌}
use Prim.Native.Nat.{ℕ, ◌+◌}
use native.Mathlib.Omega.{arith}
use lib.Dec.{leb}
use lib.ListN.{length}
use lib.Ieee.{Float}
use Rattle.std.specs.Prelude.{Result, Ok, Err, is_ok}
use Rattle.compress.specs.declared.Refusal.TheVariants as refusal
use Rattle.compress.specs.declared.Vertex.{Vertex}
use Rattle.compress.specs.Layout.{store, store_from, rows}
use Rattle.compress.specs.Rows.{vertex_at, edge_number_layout, edge_float_layout, vertex_number_layout, vertex_float_layout}
use Rattle.compress.specs.Shell.{Shell, store_shell, counts_of, vertices_fit, edges_fit, has_room}
use Rattle.compress.proofs.Layouts.{length_rows, store_append, store_same}
use Rattle.compress.proofs.Rows.{vertex_numbers_stand, vertex_floats_stand}
use Rattle.checks.specs.Causes.{vertices_cause, edges_cause, wires_cause}
use Rattle.checks.proofs.Accepted.{VerticesAccepted, EdgesAccepted, WiresAccepted, vertices_accepted, edges_accepted, wires_accepted}
use Rattle.checks.proofs.Lowest.{lower_none}
use Rattle.cutting.specs.declared.mending.NoRoom.{NoRoom}
use Rattle.cutting.specs.mending.Steps.{InPlace, count_told}
use Rattle.cutting.specs.Contract.{lent_of, leaves, input_cause, result_of}

module _ (vn : List ℕ) (vf : List Float) (en : List ℕ) (ef : List Float) (us ls : List ℕ) (v e w : ℕ) where
  pub record Accepted : Type 0 where
    pub vertices : VerticesAccepted vn vf v
    pub edges : EdgesAccepted v en ef e
    pub wires : WiresAccepted e us ls w

  pub no_cause : input_cause (lent_of vn vf en ef us ls v e w) ≡ 0 → (vertices_cause vn vf v ≡ 0) × (edges_cause v en ef e ≡ 0) × (wires_cause e us ls w ≡ 0)
  unfolding input_cause
  no_cause q =
      let a = lower_none (vertices_cause vn vf v) _ q in
      let b = lower_none (edges_cause v en ef e) (wires_cause e us ls w) a.1 in
      (a.0, b.0, b.1)

  pub accepted : input_cause (lent_of vn vf en ef us ls v e w) ≡ 0 → Accepted
  accepted q =
      let z = no_cause q in
      record { vertices = vertices_accepted vn vf v z.0; edges = edges_accepted v en ef e z.1; wires = wires_accepted e us ls w z.2 }

  -- the vertices lent, stored again with others behind them, are themselves
  pub vertices_stand : Accepted → (vs : List Vertex)
      → (store_from vertex_number_layout vn 0 (rows (vertex_at vn vf) 0 v ++ vs) ≡ store_from vertex_number_layout vn v vs)
      × (store_from vertex_float_layout vf 0 (rows (vertex_at vn vf) 0 v ++ vs) ≡ store_from vertex_float_layout vf v vs)
  vertices_stand A vs =
      let lent = rows (vertex_at vn vf) 0 v in
      let l : 0 + length lent ≡ v = omega (arith, length_rows (vertex_at vn vf) 0 v) in
      let p : store_from vertex_number_layout vn 0 lent ≡ vn
      = store_same vertex_number_layout vn (vertex_at vn vf) 0 v (λ j lo hi. vertex_numbers_stand vn vf j (A.vertices.kinds j (omega arith)) (A.vertices.curve_kinds j (omega arith))) in
      let q : store_from vertex_float_layout vf 0 lent ≡ vf = store_same vertex_float_layout vf (vertex_at vn vf) 0 v (λ j lo hi. vertex_floats_stand vn vf j) in
      (store_append vertex_number_layout lent vs vn 0 ∙ rw (l, p), store_append vertex_float_layout lent vs vf 0 ∙ rw (l, q))

  -- A call comes to the shell r, with so many vertices and edges more than were lent; `room` is how many the tables have room for, and the wires
  -- were mended in place where there is room.
  module _ (r : Shell) (cuts : ℕ) (lv : length r.vertices ≡ v + cuts) (le : length r.edges ≡ e + cuts)
      (room : ℕ) (has : (k : ℕ) → leb k room ≡ (vertices_fit vn vf (v + k) && edges_fit en ef (e + k)))
      (us' ls' : List ℕ) (m : Result ℕ NoRoom) (M : InPlace r.wires (leb cuts room) us ls us' ls' m) where
    room_is : has_room (lent_of vn vf en ef us ls v e w).slices (counts_of r) ≡ is_ok m
    unfolding has_room counts_of
    room_is = rw (lv, le, M.fits, has cuts)

    -- no room: 6, and nothing written
    pub result_full : is_ok m ≡ false → leaves (Err refusal.NoRoom) vn vf en ef us' ls' ≡ result_of (lent_of vn vf en ef us ls v e w).slices r
    result_full t =
        let eu : us' ≡ us = M.uses ∙ rw t in
        let el : ls' ≡ ls = M.lengths ∙ rw t in
        rw (room_is, t, eu, el)

    -- room: the new counts, and the result stored
    pub result_done : (vn' : List ℕ) (vf' : List Float) (en' : List ℕ) (ef' : List Float) → is_ok m ≡ true
        → vn' ≡ store vertex_number_layout vn r.vertices → vf' ≡ store vertex_float_layout vf r.vertices
        → en' ≡ store edge_number_layout en r.edges → ef' ≡ store edge_float_layout ef r.edges
        → leaves (Ok (record { vertices = v + cuts; edges = e + cuts; uses = count_told m })) vn' vf' en' ef' us' ls' ≡ result_of (lent_of vn vf en ef us ls v e w).slices r
    unfolding store_shell counts_of
    result_done vn' vf' en' ef' t ev evf ee eef =
        rw (room_is, t, ev, evf, ee, eef, M.uses, M.lengths, t, M.count, lv, le)
