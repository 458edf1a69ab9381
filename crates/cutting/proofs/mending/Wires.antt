-- Wires mended one use and one wire at a time: what is done, with what is left to mend, is the mended whole at every turn.
-- Assumes nothing.
use mathlib.Core.Path.{◌≡◌, refl, ap, sym, ◌∙◌}
use mathlib.Core.Bool.{Bool, true, false}
use mathlib.Core.List.{List, [], ◌∷◌, ◌++◌, append_assoc, append-nil}
use Prim.Native.Nat.{ℕ, ◌+◌, ◌*◌, ◌/◌, ◌≤◌, ◌<◌}
use native.Mathlib.Numerals.{add-one}
use native.Mathlib.Omega.{arith}
use Rattle.std.specs.Prelude.{Option, Some, None}
use Rattle.std.specs.Option.{option_map}
use Rattle.std.proofs.lemmas.List.{length-map}
use Rattle.std.proofs.lemmas.Iterator.Adapters.{option_map_id}
use lib.ListN.{length, get_or, take, drop, length-append}
use lib.Seq.{sets, length-sets, drop-cons, drop-length, length-take-le}
use Rattle.compress.specs.Records.{forward}
use Rattle.compress.proofs.Cells.{take_sets}
use Rattle.cutting.specs.mending.Replace.{replaced_by, replace_use, replace_edges}
use Rattle.cutting.specs.mending.Steps.{numbers_of}

-- a map as numbers has as many entries
pub length_numbers : {A : Type 0} (number : A → ℕ) (added : List (Option A)) → length (numbers_of number added) ≡ length added
length_numbers number added = length-map added (option_map number)

-- of a map of numbers it is the map
pub numbers_same : (added : List (Option ℕ)) → numbers_of (λ n. n) added ≡ added
numbers_same [] = refl
numbers_same (m ∷ ms) = rw (option_map_id m, numbers_same ms) refl

-- a use becomes one or two
by_small : (f : Bool) (u new : ℕ) → length (replaced_by f u new) ≤ 2
by_small true u new = omega arith
by_small false u new = omega arith

pub use_small : (u : ℕ) (new : Option ℕ) → length (replace_use u new) ≤ 2
unfolding replace_use
use_small u None = omega arith
use_small u (Some new) = by_small (forward u) u new

pub edges_small : (added : List (Option ℕ)) (us : List ℕ) → length (replace_edges added us) ≤ length us * 2
unfolding replace_edges
edges_small added [] = omega arith
edges_small added (u ∷ us) =
    simp length-append (omega (arith, use_small u (get_or added (u / 2) None), edges_small added us))

-- where the loop of `replace_edges` stands: the first i uses are mended, in the first k places
pub record Replaced (added : List (Option ℕ)) (wire out₀ : List ℕ) (i k : ℕ) (out : List ℕ) : Type 0 where
  pub i_le : i ≤ length wire
  pub k_le : k ≤ i * 2
  pub same : length out ≡ length out₀
  pub is : take k out ++ replace_edges added (drop i wire) ≡ replace_edges added wire

module _ (added : List (Option ℕ)) (wire out₀ : List ℕ) (room : length wire * 2 ≤ length out₀) where
  pub replaced_start : Replaced added wire out₀ 0 0 out₀
  replaced_start = record { i_le = omega arith; k_le = omega arith; same = refl; is = refl }

  pub replaced_more : (i k : ℕ) (out ps : List ℕ) (k' : ℕ) (out' : List ℕ) → Replaced added wire out₀ i k out → i < length wire
      → ps ≡ replace_use (get_or wire i 0) (get_or added (get_or wire i 0 / 2) None) → k' ≡ k + length ps → out' ≡ sets out k ps
      → Replaced added wire out₀ (i + 1) k' out'
  unfolding replace_edges
  replaced_more i k out ps k' out' R lt q ek eo =
      let u = get_or wire i 0 in
      let small : length ps ≤ 2 = rw q (use_small u (get_or added (u / 2) None)) in
      let d : replace_edges added (drop i wire) ≡ ps ++ replace_edges added (drop (i + 1) wire) = rw (add-one i, drop-cons wire i 0 lt, q) in
      record {
        i_le = omega arith;
        k_le = omega (arith, R.k_le);
        same = rw eo (length-sets out k ps ∙ R.same);
        is = rw (eo, ek, take_sets out ps k (omega (arith, R.k_le, R.same)), append_assoc, ← d) R.is;
      }

  pub replaced_done : (i k : ℕ) (out : List ℕ) → Replaced added wire out₀ i k out → length wire ≤ i
      → (k ≡ length (replace_edges added wire)) × (take k out ≡ replace_edges added wire)
  unfolding replace_edges
  replaced_done i k out R h =
      let p : i ≡ length wire = omega (arith, R.i_le) in
      let t : take k out ≡ replace_edges added wire = rw (p, drop-length, append-nil) at R.is in
      (sym (length-take-le k out (omega (arith, R.k_le, R.same))) ∙ ap length t, t)
