-- One of several wires replaced, as it is written: what stands before it, the new wire, and what stood behind it.
-- Assumes nothing.
use mathlib.Core.Path.{◌≡◌, refl, ap, sym, ◌∙◌}
use mathlib.Core.Bool.{true, false}
use mathlib.Core.List.{List, [], ◌∷◌, ◌++◌, append_assoc}
use Prim.Native.Nat.{ℕ, zero, suc, ◌+◌, ◌-◌, ◌≤◌, ◌<◌}
use native.Mathlib.Numerals.{add-one}
use native.Mathlib.Omega.{arith}
use lib.ListN.{length, get_or, set, take, drop, length-append, length-drop, length-set, take-append-drop}
use lib.Seq.{take-add, drop-drop, take-take, length-take-le, take-set-lt, drop-set-lt, get_or-take}
use Rattle.compress.specs.declared.Refusal.TheVariants.{NoRoom}
use Rattle.compress.specs.Shell.{uses_fit}
use Rattle.compress.specs.Wires.{total, wires_of, uses_of, lengths_of, over}
use Rattle.compress.proofs.Wires.{wire_in, uses_all, total_both}
use Rattle.std.specs.Prelude.{Ok, Err}
use Rattle.join.specs.joined.Outcome.{leaves_stored, stored_in}
use Rattle.join.specs.joined.Steps.{replaced_in}
use Rattle.join.specs.laying.Steps.{Lying}

-- ---- wires of the lengths L
lengths_all : (us L : List ℕ) → total L ≤ length us → lengths_of (wires_of us L) ≡ L
unfolding wires_of lengths_of total
lengths_all us [] h = refl
lengths_all us (m ∷ L) h =
    let l : length (take m us) ≡ m = length-take-le m us (omega arith) in
    rw (l, lengths_all (drop m us) L (rw length-drop (omega arith)))

wire_of : (us L : List ℕ) (w : ℕ) → w < length L → get_or (wires_of us L) w [] ≡ take (get_or L w 0) (drop (total (take w L)) us)
unfolding wires_of total
wire_of us [] w h = absurd (omega arith)
wire_of us (m ∷ L) zero h = refl
wire_of us (m ∷ L) (suc w) h = wire_of (drop m us) L w (omega arith) ∙ rw (drop-drop (total (take w L)) m us)

uses_set : (joined us L : List ℕ) (w : ℕ) → w < length L
    → uses_of (set (wires_of us L) w joined)
    ≡ take (total (take w L)) us ++ (joined ++ uses_of (wires_of (drop (total (take w L) + get_or L w 0) us) (drop (suc w) L)))
unfolding wires_of uses_of total
uses_set joined us [] w h = absurd (omega arith)
uses_set joined us (m ∷ L) zero h =
    let p : 0 + m ≡ m = omega arith in
    rw p
uses_set joined us (m ∷ L) (suc w) h =
    let t = total (take w L) in
    let p : m + (t + get_or L w 0) ≡ m + t + get_or L w 0 = omega arith in
    rw (uses_set joined (drop m us) L w (omega arith), drop-drop (t + get_or L w 0) m us, p, take-add m t us, append_assoc)

lengths_set : (joined us L : List ℕ) (w : ℕ) → total L ≤ length us → lengths_of (set (wires_of us L) w joined) ≡ set L w (length joined)
unfolding wires_of lengths_of total
lengths_set joined us [] w h = refl
lengths_set joined us (m ∷ L) zero h = rw (lengths_all (drop m us) L (rw length-drop (omega arith)))
lengths_set joined us (m ∷ L) (suc w) h =
    let l : length (take m us) ≡ m = length-take-le m us (omega arith) in
    rw (l, lengths_set joined (drop m us) L w (rw length-drop (omega arith)))

-- ---- wire w of the n that lie in their slices
module _ (us ls : List ℕ) (n w : ℕ) (L : Lying us ls n) (lt : w < n) where
  same_before : take w (take n ls) ≡ take w ls
  same_before = take-take w n ls (omega arith)

  -- it lies in the uses
  pub wire_lies : total (take w ls) + get_or ls w 0 + total (drop (w + 1) (take n ls)) ≡ total (take n ls)
  wire_lies =
      let s : total (take w ls) + total (drop w (take n ls)) ≡ total (take n ls)
      = sym (total_both (take w ls) (drop w (take n ls))) ∙ ap total (rw same_before at (take-append-drop w (take n ls))) in
      wire_in us ls n w (total (take w ls)) L.lengths lt s

  -- it is what is lent on, from place `from`
  pub wire_there : (from : ℕ) → from ≡ total (take w ls) → take (from + get_or ls w 0 - from) (drop from us) ≡ get_or (wires_of us (take n ls)) w []
  wire_there from e =
      let l : length (take n ls) ≡ n = length-take-le n ls L.lengths in
      let p : from + get_or ls w 0 - from ≡ get_or ls w 0 = omega arith in
      rw (p, e) (sym (wire_of us (take n ls) w (omega arith) ∙ rw (same_before, get_or-take n ls w 0 lt)))

  pub wire_within : (from : ℕ) → from ≡ total (take w ls) → from + get_or ls w 0 ≤ total (take n ls)
  wire_within from e = omega (arith, wire_lies)

  module _ (joined : List ℕ) where
    -- the uses with the wire replaced
    uses_new : (from to rest : ℕ) → from ≡ total (take w ls) → to ≡ from + get_or ls w 0 → rest ≡ total (take n ls) - to
        → uses_of (set (wires_of us (take n ls)) w joined) ≡ take from us ++ (joined ++ take rest (drop to us))
    uses_new from to rest ef et er =
        let l : length (take n ls) ≡ n = length-take-le n ls L.lengths in
        let p : total (drop (suc w) (take n ls)) ≡ rest = rw (← add-one w) (omega (arith, wire_lies)) in
        let q : to ≡ total (take w ls) + get_or ls w 0 = omega arith in
        uses_set joined us (take n ls) w (omega arith)
        ∙ rw (same_before, get_or-take n ls w 0 lt, uses_all, p, ← q, ← ef)

    lengths_new : over (lengths_of (set (wires_of us (take n ls)) w joined)) ls ≡ set ls w (length joined)
    lengths_new =
        let l : length (take n ls) ≡ n = length-take-le n ls L.lengths in
        let e : lengths_of (set (wires_of us (take n ls)) w joined) ≡ take n (set ls w (length joined))
        = lengths_set joined us (take n ls) w L.uses ∙ sym (take-set-lt n ls w (length joined) lt) in
        let m : length (take n (set ls w (length joined))) ≡ n = length-take-le n (set ls w (length joined)) (rw length-set L.lengths) in
        rw (e, m, ← drop-set-lt n ls w (length joined) lt) (take-append-drop n (set ls w (length joined)))

    -- the sums as they are taken: the uses before the wire, and all uses
    module _ (from sum : ℕ) (ef : from ≡ total (take w ls)) (es : sum ≡ total (take n ls)) where
      abbrev pub rest_of : ℕ
      rest_of = sum - (from + get_or ls w 0)

      abbrev pub count_of : ℕ
      count_of = from + length joined + rest_of

      pub bounds : (from + get_or ls w 0 ≤ sum) × (sum ≤ 1024) × (sum ≤ length us)
      bounds = (omega (arith, wire_lies), omega (arith, L.few), omega (arith, L.uses))

      rest_size : length (take rest_of (drop (from + get_or ls w 0) us)) ≡ rest_of
      rest_size = length-take-le rest_of (drop (from + get_or ls w 0) us) (rw length-drop (omega (arith, bounds)))

      uses_are : uses_of (set (wires_of us (take n ls)) w joined) ≡ (take from us ++ joined) ++ take rest_of (drop (from + get_or ls w 0) us)
      uses_are =
          let p : rest_of ≡ total (take n ls) - (from + get_or ls w 0) = omega arith in
          uses_new from (from + get_or ls w 0) rest_of ef refl p ∙ sym (append_assoc (take from us) joined _)

      front_size : length (take from us ++ joined) ≡ from + length joined
      front_size =
          let l : length (take from us) ≡ from = length-take-le from us (omega (arith, bounds)) in
          rw length-append (omega arith)

      count_is : length (uses_of (set (wires_of us (take n ls)) w joined)) ≡ count_of
      count_is = rw (uses_are, length-append (take from us ++ joined), front_size, rest_size)

      pub stored_full : uses_fit us count_of ≡ false → leaves_stored (Err NoRoom) us ls ≡ stored_in us ls (set (wires_of us (take n ls)) w joined)
      unfolding stored_in
      stored_full q = rw (count_is, q)

      pub stored_done : (us₁ : List ℕ) → uses_fit us count_of ≡ true → us₁ ≡ replaced_in us from (from + get_or ls w 0) rest_of joined
          → leaves_stored (Ok count_of) us₁ (set ls w (length joined)) ≡ stored_in us ls (set (wires_of us (take n ls)) w joined)
      unfolding stored_in
      stored_done us₁ q e =
          let rest = take rest_of (drop (from + get_or ls w 0) us) in
          let front = take from us ++ joined in
          let u : us₁ ≡ over (uses_of (set (wires_of us (take n ls)) w joined)) us
          = e ∙ rw (count_is, uses_are) (sym (append_assoc front rest (drop count_of us) ∙ append_assoc (take from us) joined (rest ++ drop count_of us))) in
          rw (u, count_is, q, lengths_new)
