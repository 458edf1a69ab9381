-- The definition of the join, from the open wire that holds v0.
-- Assumes nothing.
use mathlib.Core.Path.{◌≡◌}
use mathlib.Core.List.{List}
use Prim.Native.Nat.{ℕ}
use borrow.Author.Tests.{lt-ltb, le-ltb, eq-eqb, ne_eqb}
use lib.ListN.{length}
use Rattle.compress.specs.declared.Edge.{Edge}
use Rattle.compress.specs.Said.{result, none}
use Rattle.rows.specs.wires.Turn.{turned}
use Rattle.join.specs.laying.Places.{index_of, wire_index_of, place_in}
use Rattle.join.proofs.laying.Places.{found_is, found_not}
use Rattle.join.specs.joined.Joined.{joined_to}
use Rattle.join.specs.Join.{connected_at, connected}

-- ---- the two open wires change places, or not
module _ (es : ℕ → Edge) (v0 v1 : ℕ) (first second : List ℕ) (ws : List (List ℕ)) (i index : ℕ) where
  pub connected_kept : index ≡ 0 → joined_to es v0 v1 (turned i first) second ws ≡ connected_at es v0 v1 first second ws i index
  unfolding connected_at
  connected_kept z = rw (eq-eqb index 0 z)

  pub connected_exchanged : (index ≡ 0 → ⊥) → joined_to es v0 v1 (turned i second) first ws ≡ connected_at es v0 v1 first second ws i index
  unfolding connected_at
  connected_exchanged z = rw (ne_eqb index 0 z)

-- ---- the open wire that holds v0
module _ (es : ℕ → Edge) (v0 v1 : ℕ) (first second : List ℕ) (ws : List (List ℕ)) where
  -- it is the first, and p the place there
  pub first_holds : {p : ℕ} → result p ≡ place_in es v0 first → connected_at es v0 v1 first second ws 0 p ≡ connected es v0 v1 first second ws
  unfolding connected wire_index_of
  first_holds q =
      let f = found_is (length first) (index_of es v0 first) q in
      rw (lt-ltb (index_of es v0 first) (length first) f.1, f.0)

  -- it is the second, and p the place there
  pub second_holds : {p : ℕ} → none ≡ place_in es v0 first → result p ≡ place_in es v0 second
      → connected_at es v0 v1 first second ws 1 p ≡ connected es v0 v1 first second ws
  unfolding connected wire_index_of
  second_holds n q =
      let f = found_not (length first) (index_of es v0 first) n in
      let g = found_is (length second) (index_of es v0 second) q in
      rw (le-ltb (index_of es v0 first) (length first) f, lt-ltb (index_of es v0 second) (length second) g.1, g.0)

  -- it is neither
  pub none_holds : none ≡ place_in es v0 first → none ≡ place_in es v0 second → none ≡ connected es v0 v1 first second ws
  unfolding connected wire_index_of
  none_holds n m =
      let f = found_not (length first) (index_of es v0 first) n in
      let g = found_not (length second) (index_of es v0 second) m in
      rw (le-ltb (index_of es v0 first) (length first) f, le-ltb (index_of es v0 second) (length second) g)
