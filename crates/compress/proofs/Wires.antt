-- Wires in a slice, one wire at a time.
-- Assumes nothing.
use mathlib.Core.Path.{◌≡◌, refl, ap, sym, ◌∙◌}
use mathlib.Core.List.{List, [], ◌∷◌, ◌++◌, append_assoc}
use Prim.Native.Nat.{ℕ, suc, ◌+◌, ◌-◌, ◌≤◌, ◌<◌}
use native.Mathlib.Numerals.{add-one}
use native.Mathlib.Omega.{arith}
use lib.ListN.{length, get_or, take, drop, length-drop}
use lib.Seq.{take-append_seam, drop-append_seam, take_at, take-suc, take-add, drop-cons, drop-drop, length-take-le, get_or-take, get_or-drop}
use Rattle.compress.specs.Wires.{total, wires_of, uses_of, lengths_of, over}

module _ (us ls : List ℕ) (n w from : ℕ) (lent : n ≤ length ls) (lt : w < n) where
  -- the lengths that are left: that of wire w, and the rest
  pub lengths_first : drop w (take n ls) ≡ get_or ls w 0 ∷ drop (w + 1) (take n ls)
  lengths_first =
      let l : length (take n ls) ≡ n = length-take-le n ls lent in
      rw (add-one w) (drop-cons (take n ls) w 0 (omega arith) ∙ rw (get_or-take n ls w 0 lt))

  -- wire w lies in the uses
  pub wire_in : from + total (drop w (take n ls)) ≡ total (take n ls) → from + get_or ls w 0 + total (drop (w + 1) (take n ls)) ≡ total (take n ls)
  unfolding total
  wire_in h = omega (arith, rw lengths_first at h)

  -- the wires that are left: wire w, as it lies from place `from` to place `to`, and the rest
  pub wires_first : wires_of (drop from us) (drop w (take n ls))
      ≡ take (from + get_or ls w 0 - from) (drop from us) ∷ wires_of (drop (from + get_or ls w 0) us) (drop (w + 1) (take n ls))
  unfolding wires_of
  wires_first =
      let p : get_or ls w 0 ≡ from + get_or ls w 0 - from = omega arith in
      rw (lengths_first, drop-drop, ← p)

-- a part of a list, and what it reads
pub part_at : {A : Type 0} (d : A) (l : List A) (a b k : ℕ) → k < b - a → get_or (take (b - a) (drop a l)) k d ≡ get_or l (a + k) d
part_at d l a b k h = get_or-take (b - a) (drop a l) k d h ∙ get_or-drop a l k d

pub part_size : {A : Type 0} (l : List A) (a b : ℕ) → b ≤ length l → length (take (b - a) (drop a l)) ≡ b - a
part_size l a b h = length-take-le (b - a) (drop a l) (rw length-drop (omega arith))

-- ---- sums of the first of a list
pub total_none : (ls : List ℕ) → total (take 0 ls) ≡ 0
unfolding total
total_none ls = refl

pub total_both : (a b : List ℕ) → total (a ++ b) ≡ total a + total b
unfolding total
total_both [] b = omega arith
total_both (x ∷ a) b = omega (arith, total_both a b)

pub total_more : (ls : List ℕ) (k : ℕ) → k < length ls → total (take (k + 1) ls) ≡ total (take k ls) + get_or ls k 0
unfolding total
total_more ls k h = rw (add-one k, take-suc ls k 0 h) (omega (arith, total_both (take k ls) (get_or ls k 0 ∷ [])))

-- ---- the uses of all wires
pub uses_all : (us ls : List ℕ) → uses_of (wires_of us ls) ≡ take (total ls) us
unfolding uses_of wires_of total
uses_all us [] = refl
uses_all us (n ∷ ls) = rw (uses_all (drop n us) ls) (sym (take-add n (total ls) us))

-- and how many they are
pub uses_lent : (us ls : List ℕ) → total ls ≤ length us → length (uses_of (wires_of us ls)) ≡ total ls
uses_lent us ls h = ap length (uses_all us ls) ∙ length-take-le (total ls) us h

-- ---- as many wires as lengths
pub length_lengths : (ws : List (List ℕ)) → length (lengths_of ws) ≡ length ws
unfolding lengths_of
length_lengths [] = refl
length_lengths (w ∷ ws) = ap suc (length_lengths ws)

pub length_wires : (us ls : List ℕ) → length (wires_of us ls) ≡ length ls
unfolding wires_of
length_wires us [] = refl
length_wires us (n ∷ ls) = ap suc (length_wires (drop n us) ls)

pub wire_count : (us ls : List ℕ) (n : ℕ) → n ≤ length ls → length (wires_of us (take n ls)) ≡ n
wire_count us ls n h = length_wires us (take n ls) ∙ length-take-le n ls h

-- ---- wires that were stored, read back
wires_back : (ws : List (List ℕ)) (rest : List ℕ) → wires_of (uses_of ws ++ rest) (lengths_of ws) ≡ ws
unfolding wires_of uses_of lengths_of
wires_back [] rest = refl
wires_back (w ∷ ws) rest =
    rw (append_assoc w (uses_of ws) rest, take-append_seam w (uses_of ws ++ rest), drop-append_seam w (uses_of ws ++ rest))
    (ap (λ (x : List (List ℕ)). w ∷ x) (wires_back ws rest))

-- the wires of the uses and lengths that were stored are the wires
pub wires_stored : (ws : List (List ℕ)) (us ls : List ℕ) → wires_of (over (uses_of ws) us) (take (length ws) (over (lengths_of ws) ls)) ≡ ws
wires_stored ws us ls = rw (take_at (lengths_of ws) _ (length ws) (length_lengths ws)) (wires_back ws _)
