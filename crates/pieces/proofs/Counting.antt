-- How many uses the wires have with the pieces put in: each use of the edge adds as many as there are cuts. Assumes nothing.
use mathlib.Core.Path.{◌≡◌, refl, ap, sym, ◌∙◌}
use mathlib.Core.Bool.{Bool, true, false}
use mathlib.Core.List.{List, [], ◌∷◌, ◌++◌, append_assoc}
use Prim.Native.Nat.{ℕ, ◌+◌, ◌*◌, ◌/◌, ◌≤◌}
use native.Mathlib.Omega.{arith}
use native.Mathlib.Nat.{mul-add, mul-one, mul-zero}
use lib.Dec.{eqb}
use lib.ListN.{length, length-append}
use Rattle.std.specs.Prelude.{cond, count_by}
use Rattle.std.proofs.lemmas.List.Sums.{sum_by-cons, count_by-le-length}
use Rattle.std.proofs.Math.Nat.{mul-le-mul_right}
use Rattle.compress.specs.Records.{pick}
use Rattle.compress.specs.Wires.{uses_of}
use Rattle.rows.specs.wires.Connected.{replaced}
use Rattle.pieces.specs.Pieces.{is_of, uses_for, mended, parts_of}
use Rattle.pieces.proofs.Rows.{row_length}

module _ (i n k : ℕ) where
  one_more : (b : Bool) (c : ℕ) → k * (cond b 1 0 + c) ≡ pick b k 0 + k * c
  one_more true c = mul-add k 1 c ∙ rw (mul-one k)
  one_more false c =
      let z : 0 + c ≡ c = omega arith in
      rw z (omega arith)

  pub wire_length : (w : List ℕ) → length w + k * count_by (is_of i) w ≡ length (replaced (uses_for (parts_of i n k)) w)
  unfolding replaced
  wire_length [] = omega (arith, mul-zero k)
  wire_length (u ∷ w) =
      let r = uses_for (parts_of i n k) in
      let c : k * count_by (is_of i) (u ∷ w) ≡ pick (eqb (u / 2) i) k 0 + k * count_by (is_of i) w
      = ap (λ (m : ℕ). k * m) (sum_by-cons (λ (x : ℕ). cond (is_of i x) 1 0) u w) ∙ one_more (eqb (u / 2) i) (count_by (is_of i) w) in
      let l : length (replaced r (u ∷ w)) ≡ length (r u) + length (replaced r w) = length-append (r u) (replaced r w) in
      omega (arith, c, l, row_length i n k u, wire_length w)

-- the uses of mended wires are those of all wires, replaced one by one
replaced_append : (r : ℕ → List ℕ) (xs ys : List ℕ) → replaced r (xs ++ ys) ≡ replaced r xs ++ replaced r ys
unfolding replaced
replaced_append r [] ys = refl
replaced_append r (x ∷ xs) ys = rw (replaced_append r xs ys, append_assoc (r x) (replaced r xs) (replaced r ys))

pub uses_mended : (parts : ℕ → List ℕ) (ws : List (List ℕ)) → uses_of (mended parts ws) ≡ replaced (uses_for parts) (uses_of ws)
unfolding uses_of mended replaced
uses_mended parts [] = refl
uses_mended parts (w ∷ ws) =
    ap (λ (l : List ℕ). replaced (uses_for parts) w ++ l) (uses_mended parts ws) ∙ sym (replaced_append (uses_for parts) w (uses_of ws))

-- 1,024 uses may become 66,560
pub all_small : (i n k : ℕ) (ws : List (List ℕ)) → k ≤ 64 → length (uses_of ws) ≤ 1024 → length (uses_of (mended (parts_of i n k) ws)) ≤ 66560
all_small i n k ws few h =
    let c = count_by (is_of i) (uses_of ws) in
    let e : length (uses_of (mended (parts_of i n k) ws)) ≡ length (uses_of ws) + k * c
    = ap length (uses_mended (parts_of i n k) ws) ∙ sym (wire_length i n k (uses_of ws)) in
    let a : k * c ≤ 64 * c = mul-le-mul_right c few in
    omega (arith, e, a, count_by-le-length (is_of i) (uses_of ws))
