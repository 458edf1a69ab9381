-- Parts laid one behind the other into a buffer, and the joined wire that they make.
-- Assumes nothing.
use mathlib.Core.Path.{◌≡◌, sym, ◌∙◌}
use mathlib.Core.List.{List, ◌++◌, append_assoc}
use Prim.Native.Nat.{ℕ, ◌+◌, ◌-◌, ◌*◌, ◌/◌, ◌%◌, ◌≤◌, ◌<◌}
use native.Mathlib.Omega.{arith}
use native.Mathlib.Decide.{dec_lt}
use native.Mathlib.Nat.{mod-lt}
use lib.ListN.{length, get_or, take, drop, length-append, get_or-append}
use lib.Seq.{drop-drop, take_at, drop_at, drop-append-add, get_or-append-add, length-take-le}
use lib.Ieee.{Float}
use Rattle.compress.specs.declared.Edge.{Edge}
use Rattle.compress.specs.Rows.{numbers_per_edge, floats_per_edge, edge_at}
use Rattle.compress.specs.Said.{result, none}
use Rattle.rows.specs.wires.Turn.{turned}
use Rattle.rows.proofs.wires.Turns.{length_turned, get_or_turned}
use Rattle.join.specs.laying.Places.{index_of, place_in, closed_by}
use Rattle.join.specs.laying.Steps.{Readable}
use Rattle.join.proofs.laying.Places.{index_le}

-- p is laid into the front, and q behind it
laid_two : (p q r₁ r₂ out₁ out₂ : List ℕ) (n m : ℕ) → length p ≡ n → length q ≡ m → out₁ ≡ p ++ r₁ → out₂ ≡ take n out₁ ++ (q ++ r₂)
    → take (n + m) out₂ ≡ p ++ q
laid_two p q r₁ r₂ out₁ out₂ n m lp lq e₁ e₂ =
    let front : take n out₁ ≡ p = rw e₁ (take_at p r₁ n lp) in
    let l : length (p ++ q) ≡ n + m = rw length-append (omega arith) in
    rw (e₂, front, ← append_assoc p q r₂) (take_at (p ++ q) r₂ (n + m) l)

-- a wire turned by i, and another turned by k behind it
pub laid_turned : (i : ℕ) (a : List ℕ) (k : ℕ) (b out out₁ out₂ : List ℕ) → i ≤ length a → k ≤ length b
    → out₁ ≡ take 0 out ++ (turned i a ++ drop (0 + length a) out) → out₂ ≡ take (length a) out₁ ++ (turned k b ++ drop (length a + length b) out₁)
    → take (length a + length b) out₂ ≡ turned i a ++ turned k b
laid_turned i a k b out out₁ out₂ hi hk e₁ e₂ =
    laid_two (turned i a) (turned k b) _ _ out₁ out₂ (length a) (length b) (length_turned i a hi) (length_turned k b hk) e₁ e₂

-- and what stood behind them stands as it did
pub laid_rest : (i : ℕ) (a : List ℕ) (k : ℕ) (b out out₁ out₂ : List ℕ) → i ≤ length a → k ≤ length b → length out₁ ≡ length out → length a + length b ≤ length out
    → out₁ ≡ take 0 out ++ (turned i a ++ drop (0 + length a) out) → out₂ ≡ take (length a) out₁ ++ (turned k b ++ drop (length a + length b) out₁)
    → drop (length a + length b) out₂ ≡ drop (length a + length b) out
laid_rest i a k b out out₁ out₂ hi hk same room e₁ e₂ =
    let n = length a + length b in
    let z : 0 + length a ≡ length a = omega arith in
    let h : length a ≤ length out₁ = omega arith in
    let f : out₁ ≡ turned i a ++ drop (length a) out = rw z at e₁ in
    let front = take (length a) out₁ ++ turned k b in
    let la : length (turned i a) ≡ length a = length_turned i a hi in
    let lf : length front ≡ n = rw (length-append, length-take-le (length a) out₁ h, length_turned k b hk) in
    let e : out₂ ≡ front ++ drop n out₁ = e₂ ∙ sym (append_assoc (take (length a) out₁) (turned k b) (drop n out₁)) in
    let d : drop n out₁ ≡ drop n out = rw f (rw la at (drop-append-add (turned i a) (drop (length a) out) (length b)) ∙ drop-drop (length b) (length a) out) in
    rw e (drop_at front (drop n out₁) n lf ∙ d)

-- ---- uses that can be read
module _ (en : List ℕ) (ef : List Float) where
  pub turned_rows : (i : ℕ) (w : List ℕ) → i ≤ length w → Readable en ef w → Readable en ef (turned i w)
  turned_rows i w h r k lt =
      let l : k < length w = omega (arith, length_turned i w h) in
      let p : 0 < length w = omega arith in
      rw (get_or_turned i k w h l) (r ((i + k) % length w) (mod-lt (i + k) p))

  pub append_rows : (a b : List ℕ) → Readable en ef a → Readable en ef b → Readable en ef (a ++ b)
  append_rows a b ra rb k lt = by_side (dec_lt k (length a))
    where
      Row : ℕ → Type 0
      Row u = (u / 2 * numbers_per_edge + numbers_per_edge ≤ length en) × (u / 2 * floats_per_edge + floats_per_edge ≤ length ef)

      by_side : Dec (k < length a) → Row (get_or (a ++ b) k 0)
      by_side (yes h) = rw (get_or-append a b 0 k h) (ra k h)
      by_side (no h) =
          let p : k ≡ length a + (k - length a) = omega (arith, h) in
          let g : k - length a < length b = omega (arith, h, length-append a b) in
          rw (p, get_or-append-add a b (k - length a) 0) (rb (k - length a) g)

-- ---- the second half of the joined wire
module _ (es : ℕ → Edge) (v : ℕ) (wire second : List ℕ) where
  pub closed_none : none ≡ place_in es v wire → none ≡ closed_by es v wire second
  unfolding closed_by
  closed_none q = rw (← q)

  pub closed_found : (l r : ℕ) (out : List ℕ) → result l ≡ place_in es v wire → take r out ≡ turned l wire ++ second → result (take r out) ≡ closed_by es v wire second
  unfolding closed_by
  closed_found l r out q e = rw (← q, e)

-- ---- both halves: the first, with the wire behind it, is laid into the front of `opened`; the second is laid behind what is read there
module _ (en : List ℕ) (ef : List Float) (first wire second opened : List ℕ) (turn v : ℕ) (h : turn ≤ length first)
    (e : take (length first + length wire) opened ≡ turned turn first ++ turned (index_of (edge_at en ef) v wire) wire) where
  pub front_length : length (take (length first + length wire) opened) ≡ length first + length wire
  front_length =
      rw (e, length-append)
      (omega (arith, length_turned turn first h, length_turned (index_of (edge_at en ef) v wire) wire (index_le (edge_at en ef) v wire)))

  -- what the second half asks
  pub second_asks : length first + length wire + length second ≤ 1024 → Readable en ef first → Readable en ef wire
      → (length (take (length first + length wire) opened) + length second ≤ 1024) × Readable en ef (take (length first + length wire) opened)
  second_asks few a b =
      let k = index_le (edge_at en ef) v wire in (
        omega (arith, front_length),
        rw e (append_rows en ef (turned turn first) (turned (index_of (edge_at en ef) v wire) wire) (turned_rows en ef turn first h a)
            (turned_rows en ef (index_of (edge_at en ef) v wire) wire k b)),
      )
