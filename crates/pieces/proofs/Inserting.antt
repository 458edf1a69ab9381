-- Where `insert_new_edges` stands: what is laid, with what is left to replace, is the mended wire at every turn. Assumes nothing.
use mathlib.Core.Path.{◌≡◌, refl, ap, ◌∙◌}
use mathlib.Core.List.{List, ◌++◌, append_assoc, append-nil}
use Prim.Native.Nat.{ℕ, ◌+◌, ◌≤◌, ◌<◌}
use native.Mathlib.Numerals.{add-one}
use native.Mathlib.Omega.{arith}
use lib.ListN.{length, get_or, take, drop, length-append}
use lib.Seq.{drop-cons, drop-length, sets, length-sets}
use Rattle.compress.proofs.Cells.{take_sets}
use Rattle.rows.specs.wires.Connected.{replaced}

-- the first i uses are replaced, in the first `at` places
pub record Inserted (r : ℕ → List ℕ) (wire out₀ : List ℕ) (i at : ℕ) (out : List ℕ) : Type 0 where
  pub i_le : i ≤ length wire
  pub same : length out ≡ length out₀
  pub count : at + length (replaced r (drop i wire)) ≡ length (replaced r wire)
  pub laid : take at out ++ replaced r (drop i wire) ≡ replaced r wire

module _ (r : ℕ → List ℕ) (wire out₀ : List ℕ) (room : length (replaced r wire) ≤ length out₀) where
  pub inserted_start : Inserted r wire out₀ 0 0 out₀
  inserted_start = record { i_le = omega arith; same = refl; count = omega arith; laid = refl }

  module _ (i at : ℕ) (out : List ℕ) (I : Inserted r wire out₀ i at out) where
    pub inserted_done : length wire ≤ i → (at ≡ length (replaced r wire)) × (take at out ≡ replaced r wire)
    unfolding replaced
    inserted_done h =
        let p : i ≡ length wire = omega (arith, I.i_le) in (
          omega (arith, rw (p, drop-length) at I.count),
          rw (p, drop-length, append-nil) at I.laid,
        )

    module _ (lt : i < length wire) where
      abbrev row : List ℕ
      row = r (get_or wire i 0)

      left : replaced r (drop i wire) ≡ row ++ replaced r (drop (i + 1) wire)
      unfolding replaced
      left = rw (add-one i, drop-cons wire i 0 lt) refl

      size : length (replaced r (drop i wire)) ≡ length row + length (replaced r (drop (i + 1) wire))
      size = ap length left ∙ length-append row (replaced r (drop (i + 1) wire))

      pub row_room : at + length row ≤ length out
      row_room = omega (arith, size, I.count, I.same, room)

      pub inserted_turn : (at' : ℕ) (out' : List ℕ) → at' ≡ at + length row → out' ≡ sets out at row → Inserted r wire out₀ (i + 1) at' out'
      inserted_turn at' out' e q =
          record {
            i_le = omega arith;
            same = rw q (length-sets out at row ∙ I.same);
            count = omega (arith, e, I.count, size);
            laid = rw (e, q, take_sets out row at row_room, append_assoc, ← left) I.laid;
          }
