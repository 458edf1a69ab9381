-- Wires mended in place, from what the steps gave: on both ways out the answer and both slices are those of `InPlace`. Assumes nothing.
use mathlib.Core.Path.{◌≡◌, refl, ap, sym, ◌∙◌}
use mathlib.Core.Bool.{Bool, true, false, ◌&&◌}
use mathlib.Core.List.{List}
use Prim.Native.Nat.{ℕ, ◌≤◌}
use lib.ListN.{length, take}
use Rattle.std.specs.Prelude.{Ok, Err}
use Rattle.std.proofs.lemmas.Bool.{and_parts}
use Rattle.compress.specs.Shell.{uses_fit}
use Rattle.compress.specs.Wires.{total, wires_of, uses_of, lengths_of, over}
use Rattle.compress.proofs.Room.{uses_room}
use Rattle.compress.proofs.Wires.{uses_all}
use Rattle.rows.specs.wires.Connected.{replaced}
use Rattle.cutting.specs.mending.Steps.{InPlace}
use Rattle.pieces.specs.Pieces.{uses_for, mended}
use Rattle.pieces.proofs.Counting.{uses_mended}

module _ (parts : ℕ → List ℕ) (us ls : List ℕ) (count : ℕ) where
  abbrev ws : List (List ℕ)
  ws = mended parts (wires_of us (take count ls))

  -- all uses of the mended wires are the uses lent, replaced one by one
  pub uses_replaced : uses_of ws ≡ replaced (uses_for parts) (take (total (take count ls)) us)
  uses_replaced = uses_mended parts (wires_of us (take count ls)) ∙ ap (replaced (uses_for parts)) (uses_all us (take count ls))

  module _ (n : ℕ) (value : n ≡ length (uses_of ws)) (room fit : Bool) (q : fit ≡ uses_fit us n) where
    pub told : n ≡ length (replaced (uses_for parts) (take (total (take count ls)) us))
    told = value ∙ ap length uses_replaced

    pub fits_in : (room && fit) ≡ true → (n ≤ 1024) × (n ≤ length us)
    fits_in t = uses_room us n (sym q ∙ (and_parts room fit t).1)

    -- room: the uses replaced, and the lengths copied over the front of theirs
    pub in_place : (us' ls' ol : List ℕ) → (room && fit) ≡ true → us' ≡ over (replaced (uses_for parts) (take (total (take count ls)) us)) us
        → take count ol ≡ lengths_of ws → ls' ≡ over (take count ol) ls → InPlace ws room us ls us' ls' (Ok n)
    in_place us' ls' ol t eu h el =
        record {
          count = value;
          fits = rw (← value) (sym t ∙ rw q);
          uses = rw uses_replaced eu;
          lengths = rw (← h) el;
        }

    -- no room: nothing is written
    pub left : (room && fit) ≡ false → InPlace ws room us ls us ls (Err (record { uses = n }))
    left t = record { count = value; fits = rw (← value) (sym t ∙ rw q); uses = refl; lengths = refl }
