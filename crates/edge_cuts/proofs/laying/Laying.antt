-- Where the loops of `laying` stand: what is left to lay gives the same slice at each turn. Assumes nothing.
use mathlib.Core.Path.{◌≡◌, ◌∙◌}
use mathlib.Core.List.{List, [], ◌∷◌}
use Prim.Native.Nat.{ℕ, ◌+◌, ◌-◌, ◌≤◌, ◌<◌}
use native.Mathlib.Omega.{arith}
use Rattle.compress.specs.declared.Edge.{Edge}
use Rattle.compress.specs.declared.Vertex.{Vertex}
use Rattle.compress.specs.Layout.{Layout, put, store_from, rows}
use Rattle.compress.specs.Points.{given}
use Rattle.compress.proofs.Layouts.{store_first, store_none, rows_none, rows_first}
use Rattle.cutting.specs.cut_edge.Cut.{halves_of}
use Rattle.edge_cuts.specs.declared.cuts.Cut.{Cut}
use Rattle.edge_cuts.specs.Cut.{pieces_at, points_of}
use Rattle.edge_cuts.specs.laying.Laid.{laid_from}

module _ {A : Type 0} (l : Layout A Vertex) (at : ℕ → Cut) (n count k : ℕ) where
  pub points_turn : (s : List A) → k < count
      → store_from l s (n + k) (points_of (rows at k (count - k)))
      ≡ store_from l (put l s (n + k) (given (at k).point)) (n + (k + 1)) (points_of (rows at (k + 1) (count - (k + 1))))
  points_turn s lt =
      let p : n + k + 1 ≡ n + (k + 1) = omega arith in
      rw (rows_first at k (count - k) (count - (k + 1)) (omega arith))
      (store_first l s (n + k) (given (at k).point) (points_of (rows at (k + 1) (count - (k + 1)))) ∙ rw p)

  pub points_done : (s : List A) → count ≤ k → store_from l s (n + k) (points_of (rows at k (count - k))) ≡ s
  points_done s h =
      let z : count - k ≡ 0 = omega arith in
      rw (z, rows_none at k) (store_none l s (n + k))

module _ {A : Type 0} (l : Layout A Edge) where
  chain_turn : (s : List A) (row m n : ℕ) (p e : Edge) (cs : List Cut)
      → laid_from l s row m (p ∷ pieces_at e cs n) ≡ laid_from l (put l s row p) m (m + 1) (pieces_at e cs n)
  unfolding pieces_at
  chain_turn s row m n p e [] = store_first l (put l s row p) m e []
  chain_turn s row m n p e (c ∷ cs) = store_first l (put l s row p) m (halves_of e c.t n).old (pieces_at (halves_of e c.t n).new cs (n + 1))

  module _ (at : ℕ → Cut) (m n count k : ℕ) (row : ℕ) (e : Edge) where
    -- the pieces that are left, where e is what is left of the edge
    pub pieces_turn : (s : List A) → k < count
        → laid_from l s row (m + k) (pieces_at e (rows at k (count - k)) (n + k))
        ≡ laid_from l (put l s row (halves_of e (at k).t (n + k)).old) (m + k) (m + (k + 1))
        (pieces_at (halves_of e (at k).t (n + k)).new (rows at (k + 1) (count - (k + 1))) (n + (k + 1)))
    unfolding pieces_at
    pieces_turn s lt =
        let h = halves_of e (at k).t (n + k) in
        let p : m + k + 1 ≡ m + (k + 1) = omega arith in
        let q : n + k + 1 ≡ n + (k + 1) = omega arith in
        rw (rows_first at k (count - k) (count - (k + 1)) (omega arith), ← p, ← q)
        (chain_turn s row (m + k) (n + k + 1) h.old h.new (rows at (k + 1) (count - (k + 1))))

    pub pieces_done : (s : List A) → count ≤ k → laid_from l s row (m + k) (pieces_at e (rows at k (count - k)) (n + k)) ≡ put l s row e
    unfolding pieces_at
    pieces_done s h =
        let z : count - k ≡ 0 = omega arith in
        rw (z, rows_none at k) (store_none l (put l s row e) (m + k))
