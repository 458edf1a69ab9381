-- The copying of wires one behind the other into a lent buffer. Assumes nothing.
use Rattle.std.proofs.Common.{◌≡◌, ℕ, ◌+◌, ◌-◌, ◌≤◌, List, [], ◌∷◌, ◌++◌, length, take, drop, refl, sym, ap, ◌∙◌}
use Rattle.std.proofs.Common.{arith}
use mathlib.Core.List.{append_assoc, append-nil}
use lib.ListN.{take-append-drop, length-append, length-drop}
use lib.Seq.{length-take-le, take_at, drop_at, drop-drop}
use Rattle.compress.specs.Wires.{total, uses_of}
use Rattle.compress.proofs.Rest.{rest_length, rest_laid}
use Rattle.compress.proofs.Wires.{uses_all, uses_lent}
use Rattle.rows.specs.declared.lent.Wires.{Wires}
use Rattle.rows.specs.Held.{wires_in}

-- Where it stands: the uses that are laid, with those of the wires that are left, are those of all wires, and behind them nothing is written.
pub record Copied (all : List (List ℕ)) (out₀ out : List ℕ) (at : ℕ) (rest : List (List ℕ)) : Type 0 where
  pub at_is : at + length (uses_of rest) ≡ length (uses_of all)
  pub same : length out ≡ length out₀
  pub laid : take at out ++ uses_of rest ≡ uses_of all
  pub behind : drop at out ≡ drop at out₀

pub copied_start : (all rest : List (List ℕ)) (out : List ℕ) → rest ≡ all → Copied all out out 0 rest
copied_start all rest out e = record { at_is = rw e (omega arith); same = refl; laid = rw e refl; behind = refl }

module _ (all : List (List ℕ)) (out₀ out : List ℕ) (at : ℕ) (rest left : List (List ℕ)) (w : List ℕ) (C : Copied all out₀ out at rest) (e : rest ≡ w ∷ left)
    (room : length (uses_of all) ≤ length out₀) where
  size : length (uses_of rest) ≡ length w + length (uses_of left)
  unfolding uses_of
  size = rw e (length-append w (uses_of left))

  pub next_fits : at + length w ≤ length out
  next_fits = omega (arith, size, C.at_is, C.same)

  pub copied_turn : (ys : List ℕ) → ys ≡ w ++ drop (length w) (take (length out - at) (drop at out))
      → Copied all out₀ (take at out ++ (ys ++ drop (length out - at) (drop at out))) (at + length w) left
  unfolding uses_of
  copied_turn ys ey =
      let q = rest_laid out at ys w ey ∙ sym (append_assoc (take at out) w (drop (at + length w) out)) in
      let front : length (take at out ++ w) ≡ at + length w = length-append (take at out) w ∙ ap (λ (n : ℕ). n + length w) (length-take-le at out (omega (arith, next_fits))) in
      record {
        at_is = omega (arith, size, C.at_is);
        same = rw q (length-append (take at out ++ w) (drop (at + length w) out) ∙ omega (arith, front, length-drop (at + length w) out, next_fits, C.same));
        laid = rw (q, take_at _ (drop (at + length w) out) _ front, append_assoc) (rw e at C.laid);
        behind = rw (q, drop_at _ (drop (at + length w) out) _ front, ← drop-drop (length w) at out, ← drop-drop (length w) at out₀) (ap (drop (length w)) C.behind);
      }

pub copied_done : (all : List (List ℕ)) (out₀ out : List ℕ) (at : ℕ) (rest : List (List ℕ)) → Copied all out₀ out at rest → rest ≡ []
    → length (uses_of all) ≤ length out₀ → out ≡ uses_of all ++ drop (length (uses_of all)) out₀
unfolding uses_of
copied_done all out₀ out at rest C e h =
    let a : at ≡ length (uses_of all) = omega (arith, rw e at C.at_is) in
    let t : take at out ≡ uses_of all = sym (append-nil (take at out)) ∙ rw e at C.laid in
    sym (take-append-drop at out) ∙ rw (t, C.behind, a) refl

-- ---- said of wires that lie in their slices
pub part_fits : (out : List ℕ) (at n : ℕ) → at + n ≤ length out → n ≤ length (take (length out - at) (drop at out))
part_fits out at n h = omega (arith, rest_length out at)

module _ (made : Wires) where
  pub all_fit : (out : List ℕ) → total (take made.count made.lengths.now) ≤ length made.uses.now → total (take made.count made.lengths.now) ≤ length out
      → length (uses_of (wires_in made)) ≤ length out
  all_fit out l h = rw (uses_lent made.uses.now (take made.count made.lengths.now) l) h

  pub all_are : (out out₀ : List ℕ) → total (take made.count made.lengths.now) ≤ length made.uses.now → out ≡ uses_of (wires_in made) ++ drop (length (uses_of (wires_in made))) out₀
      → out ≡ take (total (take made.count made.lengths.now)) made.uses.now ++ drop (total (take made.count made.lengths.now)) out₀
  all_are out out₀ l e = rw (uses_lent made.uses.now (take made.count made.lengths.now) l, uses_all made.uses.now (take made.count made.lengths.now)) at e
