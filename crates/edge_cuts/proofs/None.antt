-- No cut changes nothing: what lies in the slices of a shell without a cause, stored again, is there, and has room. Assumes nothing.
use mathlib.Core.Path.{◌≡◌, refl, ◌∙◌}
use mathlib.Core.Bool.{true}
use mathlib.Core.List.{List, [], ◌∷◌, append-nil}
use Prim.Native.Nat.{ℕ, ◌*◌, ◌≤◌, ◌<◌}
use native.Mathlib.Omega.{arith}
use borrow.Author.Tests.{le-leb}
use lib.Ieee.{Float}
use Rattle.std.specs.Prelude.{Ok}
use lib.ListN.{length, get_or, set, take, drop, length-drop, take-append-drop}
use lib.Seq.{length-take-le}
use Rattle.std.proofs.lemmas.List.{set-get_or}
use Rattle.compress.specs.declared.Edge.{Edge}
use Rattle.compress.specs.Rows.{numbers_per_edge, floats_per_edge, numbers_per_vertex, floats_per_vertex, edge_at, vertex_at, edge_number_layout, edge_float_layout, vertex_number_layout, vertex_float_layout}
use Rattle.compress.specs.Said.{result}
use Rattle.compress.specs.Shell.{Shell, Slices, Lent, load, store_shell, counts_of, vertices_fit, edges_fit, uses_fit, has_room}
use Rattle.compress.specs.Wires.{total, wires_of, uses_of, lengths_of, over}
use Rattle.compress.specs.Layout.{rows}
use Rattle.compress.specs.Worked.{between}
use Rattle.compress.proofs.Layouts.{length_rows, rows_none, store_same}
use Rattle.compress.proofs.Loading.{edge_loaded}
use Rattle.compress.proofs.Rows.{edge_numbers_stand, edge_floats_stand, vertex_numbers_stand, vertex_floats_stand}
use Rattle.compress.proofs.Wires.{uses_all, uses_lent}
use Rattle.rows.specs.wires.Connected.{replaced}
use Rattle.cutting.specs.Contract.{lent_of, leaves, input_cause}
use Rattle.cutting.proofs.Outcome.{Accepted, accepted}
use Rattle.pieces.specs.Pieces.{uses_for, mended, parts_of}
use Rattle.pieces.proofs.Rows.{row_stands}
use Rattle.edge_cuts.specs.cuts.Cuts.{cut_at}
use Rattle.edge_cuts.specs.Cut.{pieces_at, cut_at_points}
use Rattle.edge_cuts.specs.Contract.{points_outcome}

-- ---- of a shell

module _ (i n : ℕ) where
  wire_stands : (w : List ℕ) → replaced (uses_for (parts_of i n 0)) w ≡ w
  unfolding replaced
  wire_stands [] = refl
  wire_stands (u ∷ w) = rw (row_stands i n u, wire_stands w)

  wires_stand : (ws : List (List ℕ)) → mended (parts_of i n 0) ws ≡ ws
  unfolding mended
  wires_stand [] = refl
  wires_stand (w ∷ ws) = rw (wire_stands w, wires_stand ws)

pub shell_is : (a b : Shell) → a.vertices ≡ b.vertices → a.edges ≡ b.edges → a.wires ≡ b.wires → a ≡ b
shell_is a b p q r = λ j. record { vertices = p j; edges = q j; wires = r j }

pub cut_none : (d : Edge) (s : Shell) (i : ℕ) → cut_at_points s i (get_or s.edges i d) [] ≡ s
unfolding cut_at_points pieces_at
cut_none d s i =
    shell_is (cut_at_points s i (get_or s.edges i d) []) s (append-nil s.vertices) (append-nil (set s.edges i (get_or s.edges i d)) ∙ set-get_or s.edges i d)
    (wires_stand i (length s.edges) s.wires)

-- ---- of the slices

lengths_taken : (us ls : List ℕ) → total ls ≤ length us → lengths_of (wires_of us ls) ≡ ls
unfolding lengths_of wires_of total
lengths_taken us [] h = refl
lengths_taken us (n ∷ ls) h = rw (length-take-le n us (omega arith), lengths_taken (drop n us) ls (rw length-drop (omega arith)))

module _ (l : Lent) (z : input_cause l ≡ 0) where
  abbrev s : Slices
  s = l.slices

  abbrev sizes : List ℕ
  sizes = take l.wires s.ls

  A : Accepted s.vn s.vf s.en s.ef s.us s.ls l.vertices l.edges l.wires
  A = accepted s.vn s.vf s.en s.ef s.us s.ls l.vertices l.edges l.wires z

  uses_again : over (uses_of (wires_of s.us sizes)) s.us ≡ s.us
  uses_again =
      rw (uses_all s.us sizes, length-take-le (total sizes) s.us A.wires.uses) (take-append-drop (total sizes) s.us)

  sizes_again : over (lengths_of (wires_of s.us sizes)) s.ls ≡ s.ls
  sizes_again =
      rw (lengths_taken s.us sizes A.wires.uses, length-take-le l.wires s.ls A.wires.lengths) (take-append-drop l.wires s.ls)

  store_again : store_shell s (load l) ≡ s
  unfolding store_shell load
  store_again = λ j.
      record {
        vn = store_same vertex_number_layout s.vn (vertex_at s.vn s.vf) 0 l.vertices (λ k lo hi. vertex_numbers_stand s.vn s.vf k (A.vertices.kinds k (omega arith)) (A.vertices.curve_kinds k (omega arith))) j;
        vf = store_same vertex_float_layout s.vf (vertex_at s.vn s.vf) 0 l.vertices (λ k lo hi. vertex_floats_stand s.vn s.vf k) j;
        en = store_same edge_number_layout s.en (edge_at s.en s.ef) 0 l.edges (λ k lo hi. edge_numbers_stand s.en s.ef k (A.edges.known k (omega arith))) j;
        ef = store_same edge_float_layout s.ef (edge_at s.en s.ef) 0 l.edges (λ k lo hi. edge_floats_stand s.en s.ef k) j;
        us = uses_again j;
        ls = sizes_again j;
      }

  room_again : has_room s (counts_of (load l)) ≡ true
  unfolding has_room counts_of load vertices_fit edges_fit uses_fit
  room_again =
      let B = A.vertices in
      let E = A.edges in
      let W = A.wires in
      rw (length_rows (vertex_at s.vn s.vf) 0 l.vertices, length_rows (edge_at s.en s.ef) 0 l.edges, uses_lent s.us sizes W.uses, le-leb l.vertices 4096 B.below, le-leb (l.vertices * numbers_per_vertex) (length s.vn) B.numbers, le-leb (l.vertices * floats_per_vertex) (length s.vf) B.floats, le-leb l.edges 4096 E.below, le-leb (l.edges * numbers_per_edge) (length s.en) E.numbers, le-leb (l.edges * floats_per_edge) (length s.ef) E.floats, le-leb (total sizes) 1024 W.few, le-leb (total sizes) (length s.us) W.uses) refl

  -- "No cut changes nothing": the counts are told, and every slice stands
  pub none_outcome : (d : Edge) (i : ℕ) → i < l.edges → points_outcome l i [] ≡ record { said = result (counts_of (load l)); slices = s }
  unfolding points_outcome
  none_outcome d i lt =
      rw (edge_loaded l d i lt, cut_none d (load l) i, room_again, store_again) refl

-- so it is answered with the counts of what was lent
pub none_left : (vn : List ℕ) (vf : List Float) (en : List ℕ) (ef : List Float) (us ls : List ℕ) (v e w i t n : ℕ) (cs : List Float)
    → input_cause (lent_of vn vf en ef us ls v e w) ≡ 0 → i < e → n ≡ 0 → t ≡ total (take w ls)
    → leaves (Ok (record { vertices = v; edges = e; uses = t })) vn vf en ef us ls ≡ points_outcome (lent_of vn vf en ef us ls v e w) i (rows (cut_at cs) 0 n)
unfolding load counts_of
none_left vn vf en ef us ls v e w i t n cs z lt p d =
    let l = lent_of vn vf en ef us ls v e w in
    let W = (accepted vn vf en ef us ls v e w z).wires in
    rw (p, rows_none (cut_at cs) 0, none_outcome l z (between 0 0) i lt, length_rows (vertex_at vn vf) 0 v, length_rows (edge_at en ef) 0 e, uses_lent us (take w ls) W.uses, d) refl
