-- What is known of wires without a cause: how many they are, and how many uses they have. Assumes nothing.
use mathlib.Core.Path.{◌≡◌}
use mathlib.Core.List.{List}
use Prim.Native.Nat.{ℕ, ◌≤◌}
use native.Mathlib.Omega.{arith}
use lib.ListN.{length, take}
use Rattle.compress.specs.Wires.{wires_of, uses_of}
use Rattle.compress.proofs.Wires.{wire_count, uses_lent}
use Rattle.checks.specs.Causes.{wires_cause}
use Rattle.checks.proofs.Accepted.{wires_accepted}
use Rattle.pieces.specs.Pieces.{mended, parts_of}
use Rattle.pieces.proofs.Counting.{all_small}

module _ (m : ℕ) (us ls : List ℕ) (count : ℕ) (z : wires_cause m us ls count ≡ 0) where
  abbrev all : List (List ℕ)
  all = wires_of us (take count ls)

  pub held_count : length all ≡ count
  held_count = wire_count us ls count (wires_accepted m us ls count z).lengths

  pub held_places : length all ≤ 64
  held_places = omega (arith, held_count, (wires_accepted m us ls count z).below)

  pub held_uses : length (uses_of all) ≤ 1024
  held_uses =
      let W = wires_accepted m us ls count z in
      omega (arith, uses_lent us (take count ls) W.uses, W.few)

  pub held_small : (i n k : ℕ) → k ≤ 64 → length (uses_of (mended (parts_of i n k) all)) ≤ 66560
  held_small i n k h = all_small i n k all h held_uses
