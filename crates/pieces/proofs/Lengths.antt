-- Where `mended_lengths` stands: the lengths that are written, with those of the wires that are left, are the lengths of the mended wires.
-- Assumes nothing.
use mathlib.Core.Path.{◌≡◌, refl, ap, sym, ◌∙◌}
use mathlib.Core.List.{List, [], ◌∷◌, ◌++◌, append-nil}
use Prim.Native.Nat.{ℕ, ◌+◌, ◌≤◌, ◌<◌}
use native.Mathlib.Numerals.{add-one}
use native.Mathlib.Omega.{arith}
use lib.ListN.{length, set, take, length-set, length-append}
use lib.Seq.{append_snoc, take-suc-set}
use Rattle.compress.specs.Wires.{uses_of, lengths_of}
use Rattle.rows.specs.wires.Connected.{replaced}
use Rattle.pieces.specs.Pieces.{uses_for, mended}

module _ (parts : ℕ → List ℕ) (all : List (List ℕ)) where
  -- w wires are counted, which have n uses, and the wires `rest` are left
  pub record Counted (ol₀ ol : List ℕ) (w n : ℕ) (rest : List (List ℕ)) : Type 0 where
    pub few : length (uses_of rest) ≤ 1024
    pub places : w + length rest ≡ length all
    pub same : length ol ≡ length ol₀
    pub count : n + length (uses_of (mended parts rest)) ≡ length (uses_of (mended parts all))
    pub lengths : take w ol ++ lengths_of (mended parts rest) ≡ lengths_of (mended parts all)

  pub counted_start : (ol : List ℕ) (rest : List (List ℕ)) → rest ≡ all → length (uses_of all) ≤ 1024 → Counted ol ol 0 0 rest
  counted_start ol rest e h = rw e (record { few = h; places = omega arith; same = refl; count = omega arith; lengths = refl })

  module _ (ol₀ ol : List ℕ) (w n : ℕ) (rest left : List (List ℕ)) (wire : List ℕ) (C : Counted ol₀ ol w n rest) (e : rest ≡ wire ∷ left) where
    mended_first : uses_of (mended parts rest) ≡ replaced (uses_for parts) wire ++ uses_of (mended parts left)
    unfolding uses_of mended
    mended_first = rw e refl

    size : length (uses_of (mended parts rest)) ≡ length (replaced (uses_for parts) wire) + length (uses_of (mended parts left))
    size = ap length mended_first ∙ length-append (replaced (uses_for parts) wire) (uses_of (mended parts left))

    less : length (uses_of rest) ≡ length wire + length (uses_of left)
    unfolding uses_of
    less = rw e (length-append wire (uses_of left))

    one_less : length rest ≡ 1 + length left
    one_less = rw e (omega arith)

    pub wire_few : length wire ≤ 1024
    wire_few = omega (arith, C.few, less)

    pub wire_within : length (replaced (uses_for parts) wire) + n ≤ length (uses_of (mended parts all))
    wire_within = omega (arith, C.count, size)

    pub place_for : length all ≤ length ol₀ → w < length ol
    place_for h = omega (arith, C.places, C.same, one_less)

    pub counted_turn : length all ≤ length ol₀ → (m : ℕ) → m ≡ length (replaced (uses_for parts) wire) → Counted ol₀ (set ol w m) (w + 1) (n + m) left
    unfolding lengths_of mended
    counted_turn h m q =
        let t : take (w + 1) (set ol w m) ≡ take w ol ++ (m ∷ []) = rw (add-one w) (take-suc-set ol w m (place_for h)) in
        record {
          few = omega (arith, C.few, less);
          places = omega (arith, C.places, one_less);
          same = length-set ol w m ∙ C.same;
          count = omega (arith, C.count, size);
          lengths = rw (t, append_snoc, q) (rw e at C.lengths);
        }

  pub counted_done : (ol₀ ol : List ℕ) (w n : ℕ) (rest : List (List ℕ)) → Counted ol₀ ol w n rest → rest ≡ []
      → (n ≡ length (uses_of (mended parts all))) × (take (length all) ol ≡ lengths_of (mended parts all))
  unfolding lengths_of mended uses_of
  counted_done ol₀ ol w n rest C e =
      let c : w ≡ length all = omega (arith, rw e at C.places) in
      (omega (arith, rw e at C.count), rw (← c) (sym (append-nil (take w ol)) ∙ rw e at C.lengths))
