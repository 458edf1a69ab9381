-- What the walk left in its own tables, copied to the lent buffers, is what the definition says; where it stops, nothing is copied.
-- Assumes nothing.
use mathlib.Core.Path.{◌≡◌, refl, ap, ◌∙◌}
use mathlib.Core.List.{List, [], ◌∷◌, ◌++◌, map}
use Prim.Native.Nat.{ℕ, ◌≤◌}
use native.Mathlib.Omega.{arith}
use lib.ListN.{length, take, drop}
use lib.Seq.{length-take-le}
use Rattle.compress.specs.Wires.{total, uses_of, lengths_of}
use Rattle.compress.proofs.Wires.{length_lengths}
use Rattle.walk.specs.declared.Walked.{Walked}
use Rattle.std.proofs.Common.{Ok, Err}
use Rattle.compress.specs.declared.Refusal.{Refusal}
use Rattle.walk.specs.lists.Ends.{front_of, back_of, marked_of, Sound}
use Rattle.walk.specs.Walk.{Answer, walk}
use Rattle.walk.specs.Answered.{Traced, leaves_walk, walk_outcome}

lengths_mapped : (ws : List (List ℕ)) → lengths_of ws ≡ map length ws
unfolding lengths_of
lengths_mapped [] = refl
lengths_mapped (w ∷ ws) = ap (λ (l : List ℕ). length w ∷ l) (lengths_mapped ws)

-- where the walk stops
pub nothing_left : (a : Answer) (k : ℕ) (made sizes : List ℕ) (r : Refusal) (out ls : List ℕ) → Traced a k made sizes (Err r)
    → leaves_walk (Err r) out ls ≡ walk_outcome a out ls
unfolding Traced
nothing_left a k made sizes r out ls T = rw T

-- The walk of w, over the tables that the code has.
module _ {en ds ms us : List ℕ} {edges : ℕ} (S : Sound en ds edges ms us) (made sizes : List ℕ) (w : Walked)
    (T : Traced (walk (front_of en ds edges) (back_of en ds edges) (marked_of ms) us) (length us) made sizes (Ok w)) where
  few_made : (w.wires ≤ length us) × (total (take w.wires sizes) ≤ length us)
  unfolding Traced
  few_made = (omega (arith, T.0.few, T.1), omega (arith, T.0.summed, T.1))

  -- the wires fit a buffer that the uses fit
  pub wires_fit : (o : ℕ) → (length made ≡ 1024) × (length sizes ≡ 1024) → length us ≤ o
      → (w.wires ≤ length sizes) × (total (take w.wires sizes) ≤ length made) × (total (take w.wires sizes) ≤ o)
  wires_fit o long h = (omega (arith, few_made, S.few, long), omega (arith, few_made, S.few, long), omega (arith, few_made))

  -- and so do their lengths
  pub lengths_fit : (o : ℕ) → length sizes ≡ 1024 → length us ≤ o → (w.wires ≤ length sizes) × (w.wires ≤ o)
  lengths_fit o long h = (omega (arith, few_made, S.few), omega (arith, few_made))

  -- what the copies leave
  pub copies_left : (out ls : List ℕ) {out' ls' : List ℕ} → out' ≡ take (total (take w.wires sizes)) made ++ drop (total (take w.wires sizes)) out
      → ls' ≡ take w.wires sizes ++ drop w.wires ls
      → leaves_walk (Ok w) out' ls' ≡ walk_outcome (walk (front_of en ds edges) (back_of en ds edges) (marked_of ms) us) out ls
  unfolding Traced
  copies_left out ls eu el =
      let m = T.0 in
      let ws = m.ws in
      let u : uses_of ws ≡ take w.uses made = m.joined in
      let lu : length (uses_of ws) ≡ w.uses = rw u (length-take-le w.uses made (omega (arith, m.long_made, T.1, S.few))) in
      let h : lengths_of ws ≡ take w.wires sizes = lengths_mapped ws ∙ m.sized in
      let lh : length (lengths_of ws) ≡ w.wires = length_lengths ws ∙ m.count in
      rw (m.is, m.count, lu, lh, eu, el, m.summed, u, h)
