-- What stands for one use where one edge is cut: by the tests of the code, and how long it is. Assumes nothing.
use mathlib.Core.Path.{◌≡◌, refl, ap, sym, ◌∙◌}
use mathlib.Core.Bool.{Bool, true, false}
use mathlib.Core.List.{List, [], ◌∷◌, ◌++◌, append_assoc, map}
use Prim.Native.Nat.{ℕ, ◌+◌, ◌-◌, ◌*◌, ◌/◌, ◌%◌, ◌≤◌, ◌<◌}
use native.Mathlib.Omega.{arith}
use borrow.Author.Tests.{eqb-true, eqb-false, eq-eqb, ne_eqb}
use lib.Dec.{eqb}
use lib.ListN.{length, set, take, drop, length-append}
use lib.Seq.{sets, sets-eq, drop-drop}
use Rattle.std.specs.List.{range_with_len}
use Rattle.std.proofs.lemmas.List.{reverse-append}
use Rattle.compress.specs.Records.{pick, forward}
use Rattle.compress.specs.Wires.{over}
use Rattle.compress.proofs.Rest.{rest_laid, rest_length}
use Rattle.pieces.specs.Pieces.{chain_forward, chain_backwards, uses_for, parts_of}
use Rattle.pieces.proofs.Laying.{forward_length, backwards_length, over_more}

-- a use is its edge's, forward or reversed
pub use_forward : (u : ℕ) → forward u ≡ true → u ≡ u / 2 * 2
use_forward u p = let q = eqb-true (u % 2) 0 p in omega arith

pub use_reversed : (u : ℕ) → forward u ≡ false → u ≡ u / 2 * 2 + 1
use_reversed u p = let q = eqb-false (u % 2) 0 p in omega (arith, q)

-- the first piece stands in front forward, and last backwards
pub forward_first : (e : ℕ) (ps : List ℕ) → chain_forward (e ∷ ps) ≡ e * 2 ∷ chain_forward ps
unfolding chain_forward
forward_first e ps = refl

pub backwards_last : (e : ℕ) (ps : List ℕ) → chain_backwards (e ∷ ps) ≡ chain_backwards ps ++ ((e * 2 + 1) ∷ [])
unfolding chain_backwards
backwards_last e ps = reverse-append ((e * 2 + 1) ∷ []) (map (λ p. p * 2 + 1) ps)

pub none_forward : chain_forward [] ≡ []
unfolding chain_forward
none_forward = refl

pub none_backwards : chain_backwards [] ≡ []
unfolding chain_backwards
none_backwards = refl

module _ (i n k u : ℕ) where
  -- a use of another edge stands
  pub row_else : eqb (u / 2) i ≡ false → uses_for (parts_of i n k) u ≡ u ∷ []
  unfolding uses_for parts_of
  row_else p = rw p (by (forward u) refl)
    where
      by : (f : Bool) → forward u ≡ f → pick f (chain_forward (u / 2 ∷ [])) (chain_backwards (u / 2 ∷ [])) ≡ u ∷ []
      by true q = forward_first (u / 2) [] ∙ rw (none_forward) (ap (λ (x : ℕ). x ∷ []) (sym (use_forward u q)))
      by false q = backwards_last (u / 2) [] ∙ rw (none_backwards) (ap (λ (x : ℕ). x ∷ []) (sym (use_reversed u q)))

  pub row_forward : eqb (u / 2) i ≡ true → forward u ≡ true → uses_for (parts_of i n k) u ≡ u ∷ chain_forward (range_with_len n k)
  unfolding uses_for parts_of
  row_forward p q = rw (p, q) (forward_first (u / 2) (range_with_len n k) ∙ ap (λ (x : ℕ). x ∷ chain_forward (range_with_len n k)) (sym (use_forward u q)))

  pub row_reversed : eqb (u / 2) i ≡ true → forward u ≡ false → uses_for (parts_of i n k) u ≡ chain_backwards (range_with_len n k) ++ (u ∷ [])
  unfolding uses_for parts_of
  row_reversed p q =
      rw (p, q) (backwards_last (u / 2) (range_with_len n k) ∙ ap (λ (x : ℕ). chain_backwards (range_with_len n k) ++ (x ∷ [])) (sym (use_reversed u q)))

  -- each use of the cut edge becomes k more
  pub row_length : length (uses_for (parts_of i n k) u) ≡ pick (eqb (u / 2) i) k 0 + 1
  row_length = by (eqb (u / 2) i) (forward u) refl refl
    where
      by : (b f : Bool) → eqb (u / 2) i ≡ b → forward u ≡ f → length (uses_for (parts_of i n k) u) ≡ pick b k 0 + 1
      by false f p q = rw (row_else p) refl
      by true true p q = rw (row_forward p q) (omega (arith, forward_length n k))
      by true false p q = rw (row_reversed p q) (length-append (chain_backwards (range_with_len n k)) (u ∷ []) ∙ omega (arith, backwards_length n k))

-- no cut: every use stands
pub row_stands : (i n u : ℕ) → uses_for (parts_of i n 0) u ≡ u ∷ []
row_stands i n u = by (eqb (u / 2) i) (forward u) refl refl
  where
    by : (b f : Bool) → eqb (u / 2) i ≡ b → forward u ≡ f → uses_for (parts_of i n 0) u ≡ u ∷ []
    by false f p q = row_else i n 0 u p
    by true true p q = row_forward i n 0 u p q ∙ rw none_forward
    by true false p q = row_reversed i n 0 u p q ∙ rw none_backwards

-- ---- the row of a use, over the front of a buffer

put_first : (out : List ℕ) (u : ℕ) → 0 < length out → set out 0 u ≡ u ∷ drop 1 out
put_first out u lt = over_more [] out 0 u refl lt

module _ (i n k u : ℕ) (is : u / 2 ≡ i) where
  abbrev row : List ℕ
  row = uses_for (parts_of i n k) u

  pub long : length row ≡ k + 1
  long = row_length i n k u ∙ rw (eq-eqb (u / 2) i is)

  module _ (out : List ℕ) (room : k + 1 ≤ length out) where
    pub chain_laid : forward u ≡ true → (out₁ ys : List ℕ) → out₁ ≡ set out 0 u → ys ≡ over (chain_forward (range_with_len n k)) (take (length out₁ - 1) (drop 1 out₁))
        → take 1 out₁ ++ (ys ++ drop (length out₁ - 1) (drop 1 out₁)) ≡ over row out
    chain_laid f out₁ ys e q =
        let p = row_forward i n k u (eq-eqb (u / 2) i is) f in
        let c = chain_forward (range_with_len n k) in
        let s : out₁ ≡ u ∷ drop 1 out = e ∙ put_first out u (omega (arith, room)) in
        let d : drop (1 + length c) out₁ ≡ drop (1 + length c) out
        = sym (drop-drop (length c) 1 out₁) ∙ rw s (drop-drop (length c) 1 out) in
        let m : length (u ∷ c) ≡ 1 + length c = omega arith in
        rest_laid out₁ 1 ys c q ∙ rw (d, s, p, ← m) refl

    pub chain_laid_back : forward u ≡ false → (out₁ : List ℕ) → out₁ ≡ over (chain_backwards (range_with_len n k)) out → set out₁ k u ≡ over row out
    chain_laid_back f out₁ e =
        let p = row_reversed i n k u (eq-eqb (u / 2) i is) f in
        rw (e, p) (over_more (chain_backwards (range_with_len n k)) out k u (backwards_length n k) (omega (arith, room)))

-- ---- the row of a use, from place `at` on
module _ (i n k u : ℕ) (out : List ℕ) (at : ℕ) (room : at + length (uses_for (parts_of i n k) u) ≤ length out) where
  pub place_for : at < length out
  place_for = omega (arith, room, row_length i n k u)

  pub use_laid : (u / 2 ≡ i → ⊥) → (at + 1 ≡ at + length (uses_for (parts_of i n k) u)) × (set out at u ≡ sets out at (uses_for (parts_of i n k) u))
  use_laid ne = rw (row_else i n k u (ne_eqb (u / 2) i ne)) (refl, refl)

  module _ (is : u / 2 ≡ i) where
    pub chain_room : k + 1 ≤ length (take (length out - at) (drop at out))
    chain_room = omega (arith, rest_length out at, room, long i n k u is)

    pub chain_put : (ys : List ℕ) → ys ≡ over (uses_for (parts_of i n k) u) (take (length out - at) (drop at out))
        → (at + k + 1 ≡ at + length (uses_for (parts_of i n k) u)) × (take at out ++ (ys ++ drop (length out - at) (drop at out)) ≡ sets out at (uses_for (parts_of i n k) u))
    chain_put ys e =
        let r = uses_for (parts_of i n k) u in
        (omega (arith, long i n k u is), rest_laid out at ys r e ∙ sym (append_assoc (take at out) r (drop (at + length r) out)) ∙ sym (sets-eq r out at room))
