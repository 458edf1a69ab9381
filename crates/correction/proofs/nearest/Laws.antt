-- What the answer of nearest ends is, and so of the search: the vertex found is a front of the stretch.
-- Assumes nothing.
use mathlib.Core.List.{List, ◌∷◌, Memᴰ}
use Prim.Native.Nat.{ℕ}
use Rattle.compress.specs.declared.Edge.{Edge}
use Rattle.compress.specs.declared.Vertex.{Vertex}
use Rattle.compress.proofs.Choices.{smallest_member}
use Rattle.correction.specs.nearest.Ends.{gap_from, fronts_of, nearest_front}

pub front_member : (es : ℕ → Edge) (vs : ℕ → Vertex) (p u : ℕ) (us : List ℕ) → Memᴰ (nearest_front es vs p u us) (fronts_of es (u ∷ us))
unfolding nearest_front fronts_of
front_member es vs p u us = smallest_member (gap_from vs p) _ _
