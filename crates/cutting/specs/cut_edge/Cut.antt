-- An edge cut in two at a parameter. Definitions only.
use Rattle.std.specs.Prelude.{ℕ, Float}
use Rattle.compress.specs.declared.Curve.{Curve}
use Rattle.compress.specs.declared.Curve.TheVariants.{Span, Seam}
use Rattle.compress.specs.declared.Edge.{Edge}
use Rattle.compress.specs.declared.Vertex.{Vertex}
use Rattle.compress.specs.declared.Vertex.TheVariants.{Pending}
use Rattle.cutting.specs.declared.cut_edge.Halves.{Halves}

-- a curve with another range
abbrev pub with_range : Curve → Float → Float → Curve
with_range (Span n a b) t u = Span n t u
with_range (Seam n p q a b) t u = Seam n p q t u

-- "The old edge keeps t0 to the middle; the new one runs from the middle to t1", here at any parameter.
abbrev pub up_to : Curve → Float → Curve
up_to (Span n a b) t = Span n a t
up_to (Seam n p q a b) t = Seam n p q a t

abbrev pub from_on : Curve → Float → Curve
from_on (Span n a b) t = Span n t b
from_on (Seam n p q a b) t = Seam n p q t b

-- `cut_edge`: the edge (a, b) cut at t by the vertex n is (a, n), and (n, b) is new. Document 02, A.5: "Every call that cuts an edge gives each piece
-- the preparation of the old one."
unfoldable pub halves_of : Edge → Float → ℕ → Halves
halves_of e t n =
    record {
      old = record { front = e.front; back = n; curve = up_to e.curve t; preparation = e.preparation };
      new = record { front = n; back = e.back; curve = from_on e.curve t; preparation = e.preparation };
    }

-- the new vertex: "pending: the curve as it was before the cut, with the parameter", which `at` tells of a curve
unfoldable pub pending_of : (Curve → Float) → Edge → Vertex
pending_of at e = Pending e.curve (at e.curve)
