-- Wires mended in place, from what the steps gave: on both ways out the answer and both slices are those of `InPlace`.
-- Assumes nothing.
use mathlib.Core.Path.{◌≡◌, refl, ap, sym, ◌∙◌}
use mathlib.Core.Bool.{Bool, true, false, ◌&&◌}
use mathlib.Core.List.{List, ◌++◌}
use Prim.Native.Nat.{ℕ, ◌*◌, ◌≤◌}
use native.Mathlib.Omega.{arith}
use native.Mathlib.Decide.{dec_le}
use lib.ListN.{length, take, drop}
use lib.Seq.{length-take-le, take_all}
use Rattle.std.specs.Prelude.{Option, Ok, Err}
use Rattle.compress.specs.Shell.{uses_fit}
use Rattle.compress.specs.Wires.{total, wires_of, uses_of, lengths_of}
use Rattle.std.proofs.lemmas.Bool.{and_parts}
use Rattle.compress.proofs.Room.{uses_room}
use Rattle.compress.proofs.Wires.{length_lengths}
use Rattle.checks.specs.Causes.{wires_cause}
use Rattle.checks.proofs.Accepted.{wires_accepted}
use Rattle.cutting.specs.mending.Replace.{replace_wires}
use Rattle.cutting.specs.mending.Steps.{AreNumbers, Replaceable, Mended, InPlace}
use Rattle.cutting.proofs.mending.Wiring.{length_replaced}

-- a buffer of two places for each use, and one of 64 lengths, serve
pub replaceable : (us ls : List ℕ) (wires : ℕ) (added : List (Option ℕ)) (out ol : List ℕ) → wires_cause (length added) us ls wires ≡ 0 → AreNumbers added
    → total (take wires ls) * 2 ≤ length out → 64 ≤ length ol → Replaceable us ls wires added out ol
replaceable us ls wires added out ol z small ho hl =
    let W = wires_accepted (length added) us ls wires z in
    record {
      wires_le = W.lengths;
      few = W.few;
      lent = W.uses;
      edges = W.edges;
      small = small;
      room = ho;
      places = omega (arith, W.below);
    }

-- mended wires lie within the slice that they were written to
pub mended_within : (ws : List (List ℕ)) (n : ℕ) (out ol : List ℕ) → Mended ws out ol n → n ≤ length out
mended_within ws n out ol M = by (dec_le n (length out))
  where
    by : Dec (n ≤ length out) → n ≤ length out
    by (yes h) = h
    by (no h) = omega (arith, h, M.count, ap length (sym (take_all n out (omega (arith, h))) ∙ M.uses))

module _ (us ls : List ℕ) (wires : ℕ) (added : List (Option ℕ)) (le : wires ≤ length ls) (n : ℕ) (out ol : List ℕ) where
  abbrev ws : List (List ℕ)
  ws = replace_wires added (wires_of us (take wires ls))

  module _ (M : Mended ws out ol n) (room fit : Bool) (q : fit ≡ uses_fit us n) where
    count_is : fit ≡ uses_fit us (length (uses_of ws))
    count_is = rw (← M.count) q

    -- room: the mended wires, copied over the fronts of both slices
    pub in_place : (us' ls' : List ℕ) → (room && fit) ≡ true → us' ≡ take n out ++ drop n us → ls' ≡ take wires ol ++ drop wires ls
        → InPlace ws room us ls us' ls' (Ok n)
    in_place us' ls' t eu el =
        let lw : length ws ≡ wires = length_replaced added us (take wires ls) ∙ length-take-le wires ls le in
        let ll : length (lengths_of ws) ≡ wires = length_lengths ws ∙ lw in
        let h : take wires ol ≡ lengths_of ws = rw lw at M.lengths in
        record {
          count = M.count;
          fits = rw (← count_is) (sym t);
          uses = rw (← M.count) (eu ∙ rw M.uses);
          lengths = rw ll (el ∙ rw h);
        }

    -- no room: nothing is written
    pub left : (room && fit) ≡ false → InPlace ws room us ls us ls (Err (record { uses = n }))
    left t = record { count = M.count; fits = rw (← count_is) (sym t); uses = refl; lengths = refl }

    pub fits_in : (room && fit) ≡ true → n ≤ length us
    fits_in t = (uses_room us n (sym q ∙ (and_parts room fit t).1)).1
