-- One cut by the chain of its two pieces is the cut by the map of cut edges. Assumes nothing.
use mathlib.Core.Path.{◌≡◌, refl}
use mathlib.Core.Bool.{Bool, true, false}
use mathlib.Core.List.{List, [], ◌∷◌}
use Prim.Native.Nat.{ℕ, ◌/◌, ◌<◌}
use borrow.Author.Tests.{eqb-true, eqb-false}
use lib.Dec.{eqb}
use lib.ListN.{length, get_or}
use Rattle.std.specs.Prelude.{Some, None}
use Rattle.compress.specs.declared.Edge.{Edge}
use Rattle.compress.specs.Records.{forward}
use Rattle.compress.specs.Shell.{Shell}
use Rattle.rows.specs.wires.Connected.{replaced}
use Rattle.cutting.specs.mending.Replace.{replace_use, replace_wires}
use Rattle.cutting.proofs.Keeping.{edges_replaced}
use Rattle.pieces.specs.Pieces.{chain_forward, chain_backwards, uses_for, mended, parts_of}
use Rattle.pieces.proofs.Rows.{row_else, row_forward, row_reversed}
use Rattle.edge_cuts.specs.declared.cuts.Cut.{Cut}
use Rattle.edge_cuts.specs.Cut.{pieces_at, cut_at_points}
use Rattle.edge_cuts.proofs.None.{shell_is}
use Rattle.one_cut.specs.Cut.{added_at, cut_once}
use Rattle.one_cut.proofs.Laws.{added_here, added_else}

module _ (n i : ℕ) (lt : i < n) where
  use_same : (u : ℕ) → uses_for (parts_of i n 1) u ≡ replace_use u (get_or (added_at n i n) (u / 2) None)
  unfolding replace_use chain_forward chain_backwards
  use_same u = by (eqb (u / 2) i) (forward u) refl refl
    where
      by : (b f : Bool) → eqb (u / 2) i ≡ b → forward u ≡ f → uses_for (parts_of i n 1) u ≡ replace_use u (get_or (added_at n i n) (u / 2) None)
      by true true p q =
          let a : get_or (added_at n i n) (u / 2) None ≡ Some n = rw (eqb-true (u / 2) i p) (added_here n i n lt) in
          rw (a, q) (row_forward i n 1 u p q)
      by true false p q =
          let a : get_or (added_at n i n) (u / 2) None ≡ Some n = rw (eqb-true (u / 2) i p) (added_here n i n lt) in
          rw (a, q) (row_reversed i n 1 u p q)
      by false f p q = rw (added_else n i n (u / 2) (eqb-false (u / 2) i p)) (row_else i n 1 u p)

  all_same : (w : List ℕ) → replaced (uses_for (parts_of i n 1)) w ≡ replaced (λ u. replace_use u (get_or (added_at n i n) (u / 2) None)) w
  unfolding replaced
  all_same [] = refl
  all_same (u ∷ us) = rw (use_same u, all_same us)

  wires_same : (ws : List (List ℕ)) → mended (parts_of i n 1) ws ≡ replace_wires (added_at n i n) ws
  unfolding mended replace_wires
  wires_same [] = refl
  wires_same (w ∷ ws) = rw (edges_replaced (added_at n i n) w, all_same w, wires_same ws)

-- "One cut at t"
pub once_is : (s : Shell) (i : ℕ) (e : Edge) (c : Cut) → i < length s.edges → cut_at_points s i e (c ∷ []) ≡ cut_once s i e c
unfolding cut_at_points cut_once pieces_at
once_is s i e c lt =
    shell_is (cut_at_points s i e (c ∷ [])) (cut_once s i e c) refl refl (wires_same (length s.edges) i lt s.wires)
