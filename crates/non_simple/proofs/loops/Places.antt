-- Where the loop over the places from one on stands.
-- Assumes nothing.
use Rattle.std.proofs.Common.{ℕ, ◌+◌, ◌-◌, ◌<◌, ◌≡◌, ◌∙◌, List, length, get_or, drop, arith, ap, length-drop}
use Rattle.std.proofs.lemmas.Grind.{get_or_default_zero}
use Rattle.std.proofs.lemmas.List.{get_or-drop}
use Rattle.std.proofs.lemmas.List.FromFn.{length-enumerate_from, get_or-enumerate_from}
use Rattle.std.specs.List.{enumerate_from}

-- the uses from place `from` on, each with its place
abbrev pub numbered : List ℕ → ℕ → List (ℕ × ℕ)
numbered wire from = drop from (enumerate_from 0 wire)

pub numbered_length : (wire : List ℕ) (from : ℕ) → length (numbered wire from) ≡ length wire - from
numbered_length wire from = length-drop from (enumerate_from 0 wire) ∙ ap (λ (n : ℕ). n - from) (length-enumerate_from 0 wire)

-- the item of turn k
pub record Numbered (wire : List ℕ) (from k place u : ℕ) : Type 0 where
  pub inside : from + k < length wire
  pub place_is : place ≡ from + k
  pub use_is : u ≡ get_or wire (from + k) 0

pub numbered_item : (wire : List ℕ) (from k : ℕ) (p : ℕ × ℕ) → (k < length (numbered wire from)) × (p ≡ get_or (numbered wire from) k p) → Numbered wire from k p.0 p.1
numbered_item wire from k p h =
    let lt : from + k < length wire = omega (arith, h.0, numbered_length wire from) in
    let z : 0 + (from + k) ≡ from + k = omega arith in
    let e : p ≡ (from + k, get_or wire (from + k) p.1) = h.1 ∙ get_or-drop from (enumerate_from 0 wire) k p ∙ get_or-enumerate_from 0 wire (from + k) p lt
    ∙ ap {B = ℕ × ℕ} (λ (n : ℕ). (n, get_or wire (from + k) p.1)) z in
    record {
      inside = lt;
      place_is = ap (λ (q : ℕ × ℕ). q.0) e;
      use_is = ap (λ (q : ℕ × ℕ). q.1) e ∙ get_or_default_zero wire (from + k) p.1 lt;
    }
