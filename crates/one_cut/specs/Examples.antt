-- Worked examples of one cut. Assumes nothing.
use Rattle.std.specs.Prelude.{◌≡◌, refl, [], ◌∷◌, ℕ, Float}
use Rattle.compress.specs.Constants.{zero64, one64, two64}
use Rattle.compress.specs.declared.Curve.TheVariants.{Span}
use Rattle.compress.specs.declared.Preparation.TheVariants.{Square}
use Rattle.compress.specs.declared.Edge.{Edge}
use Rattle.compress.specs.declared.Vertex.TheVariants.{Given}
use Rattle.cutting.specs.cut_edge.Cut.{halves_of}
use Rattle.cutting.specs.mending.Replace.{replace_use, replace_edges, replace_wires}
use Rattle.one_cut.specs.Cut.{added_at, cut_once}

abbrev pub span_of : ℕ → ℕ → Float → Float → Edge
span_of a b t0 t1 = record { front = a; back = b; curve = Span 7 t0 t1; preparation = Square }

-- edge 1 = (1, 0) of two, from 0 to 2, cut at 1 by the point (1, 0, 2): it becomes (1, 2), and edge 2 = (2, 0) is appended.
-- The wire 1+ 0+ 1- becomes 1+ 2+ 0+ 2- 1-.
pub one_of_two : cut_once (record { vertices = Given zero64 zero64 zero64 ∷ Given one64 zero64 zero64 ∷ []; edges = span_of 0 1 zero64 two64 ∷ span_of 1 0 zero64 two64 ∷ []; wires = (2 ∷ 0 ∷ 3 ∷ []) ∷ [] }) 1 (span_of 1 0 zero64 two64) (record { t = one64; point = record { x = one64; y = zero64; z = two64 } })
    ≡ record { vertices = Given zero64 zero64 zero64 ∷ Given one64 zero64 zero64 ∷ Given one64 zero64 two64 ∷ []; edges = span_of 0 1 zero64 two64 ∷ span_of 1 2 zero64 one64 ∷ span_of 2 0 one64 two64 ∷ []; wires = (2 ∷ 4 ∷ 0 ∷ 5 ∷ 3 ∷ []) ∷ [] }
unfolding halves_of replace_use replace_edges replace_wires added_at cut_once
one_of_two = refl
