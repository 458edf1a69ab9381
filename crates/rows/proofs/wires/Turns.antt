-- A turned wire: its length and its uses, and its two parts written one after the other.
-- Assumes nothing.
use mathlib.Core.Path.{◌≡◌, refl, ap, sym, ◌∙◌}
use mathlib.Core.List.{List, ◌++◌, append_assoc}
use Prim.Native.Nat.{ℕ, ◌+◌, ◌-◌, ◌%◌, ◌≤◌, ◌<◌}
use native.Mathlib.Omega.{arith}
use native.Mathlib.Decide.{dec_lt}
use native.Mathlib.Nat.{mod-eq_of_lt, mod-eq-sub-mod}
use lib.ListN.{length, get_or, take, drop, length-append, length-drop, get_or-append}
use lib.Seq.{length-take-le, take_all, take_at, drop_at, drop-drop, get_or-append-add, get_or-drop, get_or-take}
use Rattle.compress.proofs.Rest.{rest_laid}
use Rattle.rows.specs.wires.Turn.{turned}

-- turning keeps the length
pub length_turned : (i : ℕ) (w : List ℕ) → i ≤ length w → length (turned i w) ≡ length w
unfolding turned
length_turned i w h = simp (length-append, length-drop, length-take-le i w h) (omega arith)

-- the uses from place i on come first, and those before it follow
pub get_or_turned_first : (i k : ℕ) (w : List ℕ) → i + k < length w → get_or (turned i w) k 0 ≡ get_or w (i + k) 0
unfolding turned
get_or_turned_first i k w h =
    let l : k < length (drop i w) = rw length-drop (omega arith) in
    rw (get_or-append (drop i w) (take i w) 0 k l, get_or-drop)

pub get_or_turned_then : (i k : ℕ) (w : List ℕ) → i ≤ length w → k < i → get_or (turned i w) (length w - i + k) 0 ≡ get_or w k 0
unfolding turned
get_or_turned_then i k w h lt =
    let l : length w - i ≡ length (drop i w) = sym (length-drop i w) in
    rw (l, get_or-append-add, get_or-take i w k 0 lt)

-- place k of the wire turned to i is place i + k, counted around the wire
pub get_or_turned : (i k : ℕ) (w : List ℕ) → i ≤ length w → k < length w → get_or (turned i w) k 0 ≡ get_or w ((i + k) % length w) 0
get_or_turned i k w h lt = by_side (dec_lt (i + k) (length w))
  where
    by_side : Dec (i + k < length w) → get_or (turned i w) k 0 ≡ get_or w ((i + k) % length w) 0
    by_side (yes inside) = get_or_turned_first i k w inside ∙ rw (mod-eq_of_lt inside)
    by_side (no past) =
        let j = i + k - length w in
        let p : k ≡ length w - i + j = omega (arith, past) in
        let q : (i + k) % length w ≡ j % length w = mod-eq-sub-mod (omega (arith, past)) in
        let r : j % length w ≡ j = mod-eq_of_lt (omega (arith, past)) in
        ap (λ (n : ℕ). get_or (turned i w) n 0) p ∙ get_or_turned_then i j w h (omega (arith, past)) ∙ ap (λ (n : ℕ). get_or w n 0) (sym (q ∙ r))

-- the part from place i on is written to the front of `out`, which gives out₁; the part before it is lent the rest of out₁, which gives ys
module _ (i : ℕ) (w out : List ℕ) (i_le : i ≤ length w) (room : length w ≤ length out) where
  pub turned_by_parts : (out₁ ys : List ℕ)
      → out₁ ≡ take (length w - i) (drop i w) ++ drop (length (take (length w - i) (drop i w))) out
      → ys ≡ take i w ++ drop (length (take i w)) (take (length out₁ - (length w - i)) (drop (length w - i) out₁))
      → take (length w - i) out₁ ++ (ys ++ drop (length out₁ - (length w - i)) (drop (length w - i) out₁)) ≡ turned i w ++ drop (length w) out
  unfolding turned
  turned_by_parts out₁ ys e₁ e₂ =
      let n = length w - i in
      let l : length (drop i w) ≡ n = length-drop i w in
      let first : out₁ ≡ drop i w ++ drop n out
      = rw (e₁, take_all n (drop i w) (omega arith), l) refl in
      let size : length (take i w) ≡ i = length-take-le i w (omega arith) in
      let front : take n out₁ ≡ drop i w = rw first (take_at (drop i w) (drop n out) n l) in
      let back : drop n out₁ ≡ drop n out = rw first (drop_at (drop i w) (drop n out) n l) in
      let p : n + i ≡ length w = omega arith in
      rest_laid out₁ n ys (take i w) e₂ ∙ rw (front, size, ← drop-drop i n out₁, back, drop-drop i n out, p, append_assoc)
