-- Every piece has its mother's preparation, and every edge that is not cut keeps its own: one law for every call that cuts edges in two, said of the
-- slices that it leaves. Assumes nothing.
use mathlib.Core.Path.{◌≡◌, refl, ap, sym, ◌∙◌}
use mathlib.Core.Bool.{Bool, true, false, ◌&&◌}
use mathlib.Core.List.{List}
use Prim.Native.Nat.{ℕ, ◌≤◌, ◌<◌}
use native.Mathlib.Omega.{arith}
use lib.ListN.{length}
use Rattle.std.proofs.lemmas.Bool.{and_parts}
use Rattle.std.specs.Prelude.{Option}
use Rattle.compress.specs.declared.Counts.{Counts}
use Rattle.compress.specs.declared.Edge.{Edge}
use Rattle.compress.specs.Records.{preparation_number}
use Rattle.compress.specs.Rows.{preparation_at}
use Rattle.compress.specs.Said.{result}
use Rattle.compress.specs.Shell.{Shell, Slices, Lent, load, store_shell, counts_of, has_room, vertices_fit, edges_fit}
use Rattle.compress.proofs.Loading.{edge_loaded, preparation_read, preparation_stored}
use Rattle.compress.proofs.Refused.{refused_never, result_told}
use Rattle.compress.proofs.Room.{edges_room}
use Rattle.cutting.specs.Contract.{input_cause, room_or, result_of}
use Rattle.cutting.specs.Keeps.{edge_in, PieceOf, PreparationsKept}
use Rattle.cutting.proofs.Keeping.{Halved}
use Rattle.cutting.proofs.Outcome.{accepted}

-- where there was room, the numbers left have the preparations of the shell that was stored
module _ (d : Edge) (s : Slices) (r : Shell) (c : Counts) (j : ℕ) (lt : j < length r.edges) where
  room_prepared : (b : Bool) → has_room s (counts_of r) ≡ b → (room_or b s r).said ≡ result c
      → preparation_at (room_or b s r).slices.en j ≡ preparation_number (edge_in d r j).preparation
  unfolding store_shell has_room counts_of
  room_prepared true e p =
      let a = and_parts (vertices_fit s.vn s.vf (length r.vertices) && edges_fit s.en s.ef (length r.edges)) _ e in
      let b = and_parts (vertices_fit s.vn s.vf (length r.vertices)) (edges_fit s.en s.ef (length r.edges)) a.0 in
      preparation_stored d r.edges s.en j lt (edges_room s.en s.ef (length r.edges) b.1).1
  room_prepared false e p = absurd (refused_never 6 p)

  pub left_prepared : (result_of s r).said ≡ result c → preparation_at (result_of s r).slices.en j ≡ preparation_number (edge_in d r j).preparation
  left_prepared p = room_prepared (has_room s (counts_of r)) refl p

-- a result counts the edges of the shell that was stored
pub edges_told : (s : Slices) (r : Shell) (c : Counts) → (result_of s r).said ≡ result c → c.edges ≡ length r.edges
unfolding counts_of
edges_told s r c p = by (has_room s (counts_of r)) p
  where
    by : (b : Bool) → (room_or b s r).said ≡ result c → c.edges ≡ length r.edges
    by true q = ap (λ (k : Counts). k.edges) (sym (result_told (counts_of r) c q))
    by false q = absurd (refused_never 6 q)

-- the numbers that were lent have those of the shell that was loaded
pub lent_prepared : (d : Edge) (l : Lent) → input_cause l ≡ 0 → (i : ℕ) → i < l.edges → preparation_number (edge_in d (load l) i).preparation ≡ preparation_at l.slices.en i
lent_prepared d l z i lt =
    let A = accepted l.slices.vn l.slices.vf l.slices.en l.slices.ef l.slices.us l.slices.ls l.vertices l.edges l.wires z in
    ap (λ (e : Edge). preparation_number e.preparation) (sym (edge_loaded l d i lt)) ∙ preparation_read l.slices.en l.slices.ef i (A.edges.known i lt)

-- a call that stores a shell in which the edges that the map names are halved, and no others
pub preparations_kept : (d : Edge) (l : Lent) (r : Shell) (c : Counts) (added : List (Option ℕ)) → input_cause l ≡ 0
    → Halved added l.edges (edge_in d (load l)) (edge_in d r) → l.edges ≤ length r.edges
    → ((i j : ℕ) → PieceOf added l.edges i j → j < length r.edges) → ((j : ℕ) → l.edges ≤ j → j < length r.edges → (i : ℕ) × PieceOf added l.edges i j)
    → (result_of l.slices r).said ≡ result c → PreparationsKept added l.edges c.edges l.slices.en (result_of l.slices r).slices.en
preparations_kept d l r c added z H more below mother p =
    let n = edges_told l.slices r c p in
    record {
      old = λ i lt.
          left_prepared d l.slices r c i (omega arith) p ∙ ap preparation_number (H.old i lt) ∙ lent_prepared d l z i lt;
      piece = λ i j q.
          let lt = below i j q in
          (omega arith, left_prepared d l.slices r c j lt p ∙ ap preparation_number (H.piece i j q.below q.named) ∙ lent_prepared d l z i q.below);
      mother = λ j lo hi. mother j lo (omega arith);
    }
