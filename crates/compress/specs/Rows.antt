-- How edges and vertices lie in their rows, and what a row holds. Definitions only.
-- An edge's numbers: front, back, kind, curve or surface number, preparation; its floats: u, v, u, v, t0, t1, of which a span has the last two.
-- A vertex's numbers: kind (0 given, 1 pending), curve kind, curve or surface number; its floats: x, y, z where it is given,
-- else those of its curve and then the parameter.
use Rattle.std.specs.Prelude.{List, [], ◌∷◌, ◌++◌, ℕ, ◌+◌, ◌*◌, ◌≤◌, ◌<◌, length, get_or, eqb, Float}
use Rattle.std.specs.Float.{nan}
use Rattle.compress.specs.declared.Uv.{Uv}
use Rattle.compress.specs.declared.Curve.{Curve}
use Rattle.compress.specs.declared.Curve.TheVariants.{Span, Seam}
use Rattle.compress.specs.declared.Preparation.{Preparation}
use Rattle.compress.specs.declared.Preparation.TheVariants.{Square, SingleBevel, DoubleBevel}
use Rattle.compress.specs.declared.Edge.{Edge}
use Rattle.compress.specs.declared.Vertex.{Vertex}
use Rattle.compress.specs.declared.Vertex.TheVariants.{Given, Pending}
use Rattle.compress.specs.Records.{pick, kind_of, number_of, preparation_number}
use Rattle.compress.specs.Layout.{Layout}

-- ---- the numbers of the layout: each stands here, and nowhere else in a definition

-- how many numbers, and how many floats, a row has
abbrev pub numbers_per_edge : ℕ
numbers_per_edge = 5

abbrev pub floats_per_edge : ℕ
floats_per_edge = 6

abbrev pub numbers_per_vertex : ℕ
numbers_per_vertex = 3

abbrev pub floats_per_vertex : ℕ
floats_per_vertex = 7

-- where the kind of its curve, the number of the curve or surface, and the preparation stand in the numbers of an edge, behind its two vertices
abbrev pub edge_kind : ℕ
edge_kind = 2

abbrev pub edge_curve : ℕ
edge_curve = 3

abbrev pub edge_preparation : ℕ
edge_preparation = 4

-- the same of a pending vertex, behind its own kind
abbrev pub curve_kind : ℕ
curve_kind = 1

abbrev pub vertex_curve : ℕ
vertex_curve = 2

-- where t0 and t1 stand in the floats of a curve, behind the two points of a seam, and where the parameter of a pending vertex, behind those of its curve
abbrev pub t0_place : ℕ
t0_place = 4

abbrev pub t1_place : ℕ
t1_place = 5

abbrev pub parameter_place : ℕ
parameter_place = 6

-- Row i, of w numbers and v floats, lies in the two slices.
abbrev pub HasRow : ℕ → ℕ → List ℕ → List Float → ℕ → Type 0
HasRow w v ns fs i = (i * w + w ≤ length ns) × (i * v + v ≤ length fs)

-- row i of a table of edges, and of vertices
abbrev pub HasEdge : List ℕ → List Float → ℕ → Type 0
HasEdge ns fs i = HasRow numbers_per_edge floats_per_edge ns fs i

abbrev pub HasVertex : List ℕ → List Float → ℕ → Type 0
HasVertex ns fs i = HasRow numbers_per_vertex floats_per_vertex ns fs i

-- ---- records read

-- kind 0 is a span; a kind above 1 is refused before it is read
unfoldable pub curve_of : ℕ → ℕ → Uv → Uv → Float → Float → Curve
curve_of kind n p q a b = pick (eqb kind 0) (Span n a b) (Seam n p q a b)

-- the curve of a kind and a number, with its floats from cell j on
abbrev pub curve_at : ℕ → ℕ → List Float → ℕ → Curve
curve_at kind n fs j =
    curve_of kind n (record { u = get_or fs j nan; v = get_or fs (j + 1) nan }) (record { u = get_or fs (j + 2) nan; v = get_or fs (j + 3) nan })
    (get_or fs (j + t0_place) nan) (get_or fs (j + t1_place) nan)

-- 0 is square, 1 single bevel, 2 double bevel; a number above 2 is refused before it is read
abbrev pub preparation_of : ℕ → Preparation
preparation_of n = pick (eqb n 0) Square (pick (eqb n 1) SingleBevel DoubleBevel)

unfoldable pub edge_of : ℕ → ℕ → ℕ → ℕ → ℕ → Float → Float → Float → Float → Float → Float → Edge
edge_of f b k n p u0 v0 u1 v1 t0 t1 =
    record {
      front = f;
      back = b;
      curve = curve_of k n (record { u = u0; v = v0 }) (record { u = u1; v = v1 }) t0 t1;
      preparation = preparation_of p;
    }

unfoldable pub vertex_of : ℕ → ℕ → ℕ → Float → Float → Float → Float → Float → Float → Float → Vertex
vertex_of k ck n f0 f1 f2 f3 t0 t1 t =
    pick (eqb k 0) (Given f0 f1 f2)
    (Pending (curve_of ck n (record { u = f0; v = f1 }) (record { u = f2; v = f3 }) t0 t1) t)

-- the kinds of row i, and its preparation
abbrev pub edge_kind_at : List ℕ → ℕ → ℕ
edge_kind_at ns i = get_or ns (i * numbers_per_edge + edge_kind) 0

abbrev pub preparation_at : List ℕ → ℕ → ℕ
preparation_at ns i = get_or ns (i * numbers_per_edge + edge_preparation) 0

-- both are known ones
abbrev pub KnownEdge : List ℕ → ℕ → Type 0
KnownEdge ns i = (edge_kind_at ns i < 2) × (preparation_at ns i < 3)

abbrev pub vertex_kind_at : List ℕ → ℕ → ℕ
vertex_kind_at ns i = get_or ns (i * numbers_per_vertex) 0

abbrev pub curve_kind_at : List ℕ → ℕ → ℕ
curve_kind_at ns i = get_or ns (i * numbers_per_vertex + curve_kind) 0

abbrev pub edge_at : List ℕ → List Float → ℕ → Edge
edge_at ns fs i =
    edge_of (get_or ns (i * numbers_per_edge) 0) (get_or ns (i * numbers_per_edge + 1) 0) (edge_kind_at ns i)
    (get_or ns (i * numbers_per_edge + edge_curve) 0) (preparation_at ns i)
    (get_or fs (i * floats_per_edge) nan) (get_or fs (i * floats_per_edge + 1) nan)
    (get_or fs (i * floats_per_edge + 2) nan) (get_or fs (i * floats_per_edge + 3) nan)
    (get_or fs (i * floats_per_edge + t0_place) nan) (get_or fs (i * floats_per_edge + t1_place) nan)

abbrev pub vertex_at : List ℕ → List Float → ℕ → Vertex
vertex_at ns fs i =
    vertex_of (vertex_kind_at ns i) (curve_kind_at ns i) (get_or ns (i * numbers_per_vertex + vertex_curve) 0)
    (get_or fs (i * floats_per_vertex) nan) (get_or fs (i * floats_per_vertex + 1) nan)
    (get_or fs (i * floats_per_vertex + 2) nan) (get_or fs (i * floats_per_vertex + 3) nan)
    (get_or fs (i * floats_per_vertex + t0_place) nan) (get_or fs (i * floats_per_vertex + t1_place) nan)
    (get_or fs (i * floats_per_vertex + parameter_place) nan)

-- ---- records written

-- the first float cell that a curve has, and its cells
abbrev pub curve_first : Curve → ℕ
curve_first (Span n a b) = t0_place
curve_first (Seam n p q a b) = 0

abbrev pub curve_cells : Curve → List Float
curve_cells (Span n a b) = a ∷ b ∷ []
curve_cells (Seam n p q a b) = p.u ∷ p.v ∷ q.u ∷ q.v ∷ a ∷ b ∷ []

abbrev pub vertex_first : Vertex → ℕ
vertex_first (Given x y z) = 0
vertex_first (Pending c t) = curve_first c

abbrev pub vertex_cells : Vertex → List Float
vertex_cells (Given x y z) = x ∷ y ∷ z ∷ []
vertex_cells (Pending c t) = curve_cells c ++ (t ∷ [])

abbrev pub vertex_number_cells : Vertex → List ℕ
vertex_number_cells (Given x y z) = 0 ∷ []
vertex_number_cells (Pending c t) = 1 ∷ kind_of c ∷ number_of c ∷ []

abbrev pub edge_number_cells : Edge → List ℕ
edge_number_cells e = e.front ∷ e.back ∷ kind_of e.curve ∷ number_of e.curve ∷ preparation_number e.preparation ∷ []

unfoldable pub edge_number_layout : Layout ℕ Edge
edge_number_layout = record { width = numbers_per_edge; first = λ e. 0; cells = edge_number_cells }

unfoldable pub edge_float_layout : Layout Float Edge
edge_float_layout = record { width = floats_per_edge; first = λ e. curve_first e.curve; cells = λ e. curve_cells e.curve }

unfoldable pub vertex_number_layout : Layout ℕ Vertex
vertex_number_layout = record { width = numbers_per_vertex; first = λ v. 0; cells = vertex_number_cells }

unfoldable pub vertex_float_layout : Layout Float Vertex
vertex_float_layout = record { width = floats_per_vertex; first = vertex_first; cells = vertex_cells }
