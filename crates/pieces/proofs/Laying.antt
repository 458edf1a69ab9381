-- The uses of the edges cut off, laid into a buffer one after the other: forward from the front, backwards from the end. Assumes nothing.
use mathlib.Core.Path.{◌≡◌, refl, ◌∙◌}
use mathlib.Core.List.{List, [], ◌∷◌, ◌++◌, append_assoc, map}
use Prim.Native.Nat.{ℕ, ◌+◌, ◌-◌, ◌*◌, ◌≤◌, ◌<◌}
use native.Mathlib.Numerals.{add-one}
use native.Mathlib.Omega.{arith}
use lib.ListN.{length, get_or, set, take, drop, length-append}
use lib.Seq.{set_at, drop-cons, length-take-le}
use Rattle.std.specs.List.{range_with_len}
use Rattle.std.proofs.lemmas.List.{reverse-append, length-reverse}
use Rattle.std.proofs.lemmas.List.FromFn.{map-range_with_len_more, length-map-range_with_len}
use Rattle.compress.specs.Wires.{over}
use Rattle.compress.proofs.Cells.{take_more}
use Rattle.pieces.specs.Pieces.{chain_forward, chain_backwards}

-- one use more behind a front
pub over_more : (front out : List ℕ) (j x : ℕ) → length front ≡ j → j < length out → set (over front out) j x ≡ over (front ++ (x ∷ [])) out
over_more front out j x e lt =
    let d : drop (length front) out ≡ get_or out j 0 ∷ drop (j + 1) out = rw (e, add-one j) (drop-cons out j 0 lt) in
    let n : length (front ++ (x ∷ [])) ≡ j + 1 = length-append front (x ∷ []) ∙ omega arith in
    rw (d, set_at front (get_or out j 0) (drop (j + 1) out) x j e, n, append_assoc front (x ∷ []) (drop (j + 1) out)) refl

module _ (n : ℕ) where
  pub forward_length : (j : ℕ) → length (chain_forward (range_with_len n j)) ≡ j
  unfolding chain_forward
  forward_length j = length-map-range_with_len (λ p. p * 2) n j

  pub backwards_length : (j : ℕ) → length (chain_backwards (range_with_len n j)) ≡ j
  unfolding chain_backwards
  backwards_length j = length-reverse (map (λ p. p * 2 + 1) (range_with_len n j)) ∙ length-map-range_with_len (λ p. p * 2 + 1) n j

  -- forward, the next use stands behind the others; backwards, in front
  pub forward_more : (j : ℕ) → chain_forward (range_with_len n (j + 1)) ≡ chain_forward (range_with_len n j) ++ ((n + j) * 2 ∷ [])
  unfolding chain_forward
  forward_more j = map-range_with_len_more (λ p. p * 2) n j (n + j) refl

  pub backwards_more : (j : ℕ) → chain_backwards (range_with_len n (j + 1)) ≡ ((n + j) * 2 + 1) ∷ chain_backwards (range_with_len n j)
  unfolding chain_backwards
  backwards_more j =
      let row = map (λ p. p * 2 + 1) (range_with_len n j) in
      rw (map-range_with_len_more (λ p. p * 2 + 1) n j (n + j) refl) (reverse-append row (((n + j) * 2 + 1) ∷ []))

  module _ (out₀ out : List ℕ) (k j : ℕ) (room : k ≤ length out₀) (lt : j < k) where
    pub forward_turn : out ≡ over (chain_forward (range_with_len n j)) out₀ → (x : ℕ) → x ≡ (n + j) * 2
        → set out j x ≡ over (chain_forward (range_with_len n (j + 1))) out₀
    forward_turn e x q = rw (e, q, forward_more j) (over_more (chain_forward (range_with_len n j)) out₀ j ((n + j) * 2) (forward_length j) (omega arith))

    pub backwards_turn : out ≡ take (k - j) out₀ ++ (chain_backwards (range_with_len n j) ++ drop k out₀) → (i x : ℕ) → i ≡ k - 1 - j → x ≡ (n + j) * 2 + 1
        → set out i x ≡ take (k - (j + 1)) out₀ ++ (chain_backwards (range_with_len n (j + 1)) ++ drop k out₀)
    backwards_turn e i x p q =
        let c = chain_backwards (range_with_len n j) in
        let i_is : i ≡ k - (j + 1) = omega arith in
        let s : k - j ≡ i + 1 = omega arith in
        let t : take (k - j) out₀ ≡ take i out₀ ++ (get_or out₀ i 0 ∷ []) = rw s (take_more 0 out₀ i (omega arith)) in
        let l : length (take i out₀) ≡ i = length-take-le i out₀ (omega arith) in
        rw (e, t, append_assoc (take i out₀) (get_or out₀ i 0 ∷ []) (c ++ drop k out₀), set_at (take i out₀) (get_or out₀ i 0) (c ++ drop k out₀) x i l, q, backwards_more j, ← i_is) refl

  pub backwards_done : (out₀ out : List ℕ) (k : ℕ) → out ≡ take (k - k) out₀ ++ (chain_backwards (range_with_len n k) ++ drop k out₀)
      → out ≡ over (chain_backwards (range_with_len n k)) out₀
  backwards_done out₀ out k e =
      let z : k - k ≡ 0 = omega arith in
      rw (backwards_length k) (e ∙ rw z)
