-- Document 01's causes 1 to 5, of lone numbers, of records, of tables and of wires, with document 02's of a preparation. A cause is its number, and
-- 0 is none.
-- "Every input is checked, used or not. The lowest number wins." Definitions only.
use Rattle.std.specs.Prelude.{Bool, true, false, not, ◌&&◌, List, ℕ, zero, suc, ◌*◌, ◌/◌, min, eqb, leb, ltb, length, get_or, take, Float}
use Rattle.std.specs.Float.Ieee.{lt}
use Rattle.compress.specs.Constants.{zero64}
use Rattle.floats.specs.Exact.{sized_of}
use Rattle.compress.specs.declared.Uv.{Uv}
use Rattle.compress.specs.declared.Curve.{Curve}
use Rattle.compress.specs.declared.Curve.TheVariants.{Span, Seam}
use Rattle.compress.specs.declared.Edge.{Edge}
use Rattle.compress.specs.declared.Vertex.{Vertex}
use Rattle.compress.specs.declared.Vertex.TheVariants.{Given, Pending}
use Rattle.compress.specs.Records.{pick, first_of, last_of}
use Rattle.compress.specs.Rows.{numbers_per_edge, floats_per_edge, numbers_per_vertex, floats_per_vertex, edge_kind_at, preparation_at, vertex_kind_at, curve_kind_at, edge_at, vertex_at}
use Rattle.compress.specs.Wires.{total}

-- the cause n where the test holds
abbrev pub when : Bool → ℕ → ℕ
when true n = n
when false n = 0

-- the lower of two causes
unfoldable pub lower_of : ℕ → ℕ → ℕ
lower_of a b = pick (eqb a 0) b (pick (eqb b 0) a (min a b))

-- the lowest of the causes f 0, f 1 and so on, n of them
unfoldable pub lowest_of : (ℕ → ℕ) → ℕ → ℕ
lowest_of f zero = 0
lowest_of f (suc n) = lower_of (lowest_of f n) (f n)

-- ---- lone numbers

-- 1: "A bound on a count is passed by the input", "a count .. is above what was lent": n is above the number given
abbrev pub count_cause : ℕ → ℕ → ℕ
count_cause most n = when (ltb most n) 1

-- 1: "a kind field holds no known kind"
abbrev pub kind_cause : ℕ → ℕ
kind_cause k = when (ltb 1 k) 1

-- 1, document 02, A.5: "as a number 0, 1 or 2; any other earns 1"
abbrev pub preparation_cause : ℕ → ℕ
preparation_cause n = when (ltb 2 n) 1

-- 2: "Vertex number not below the vertex count"
abbrev pub vertex_number_cause : ℕ → ℕ → ℕ
vertex_number_cause vertices n = when (leb vertices n) 2

-- 3: "Edge number not below the edge count"
abbrev pub edge_number_cause : ℕ → ℕ → ℕ
edge_number_cause edges n = when (leb edges n) 3

-- 4: "f64 not a number or above 1.0e15 in size"
unfoldable pub float_cause : Float → ℕ
float_cause x = when (not (sized_of x)) 4

-- 5: "t0 above t1"
unfoldable pub range_cause : Float → Float → ℕ
range_cause t0 t1 = lower_of (float_cause t0) (lower_of (float_cause t1) (when (lt t1 t0) 5))

-- 5: "cut or pending parameter outside its curve's t0 to t1"
unfoldable pub parameter_cause : Float → Float → Float → ℕ
parameter_cause t0 t1 t = lower_of (float_cause t) (lower_of (when (lt t t0) 5) (when (lt t1 t) 5))

-- 5: "period not above 0"
unfoldable pub period_cause : Float → ℕ
period_cause p = lower_of (float_cause p) (when (not (lt zero64 p)) 5)

-- ---- records

unfoldable pub uv_cause : Uv → ℕ
uv_cause p = lower_of (float_cause p.u) (float_cause p.v)

unfoldable pub curve_cause : Curve → ℕ
curve_cause (Span n t0 t1) = range_cause t0 t1
curve_cause (Seam n p q t0 t1) = lower_of (uv_cause p) (lower_of (uv_cause q) (range_cause t0 t1))

unfoldable pub edge_cause : ℕ → Edge → ℕ
edge_cause vertices e =
    lower_of (vertex_number_cause vertices e.front) (lower_of (vertex_number_cause vertices e.back) (curve_cause e.curve))

unfoldable pub point_cause : Float → Float → Float → ℕ
point_cause x y z = lower_of (float_cause x) (lower_of (float_cause y) (float_cause z))

unfoldable pub vertex_cause : Vertex → ℕ
vertex_cause (Given x y z) = point_cause x y z
vertex_cause (Pending c t) = lower_of (curve_cause c) (parameter_cause (first_of c) (last_of c) t)

-- ---- rows: the kinds, the preparation, and the record

unfoldable pub edge_row_cause : ℕ → List ℕ → List Float → ℕ → ℕ
edge_row_cause vertices ns fs i =
    lower_of (kind_cause (edge_kind_at ns i))
    (lower_of (preparation_cause (preparation_at ns i)) (edge_cause vertices (edge_at ns fs i)))

-- only a pending vertex has a curve kind
abbrev pub curve_kind_cause : ℕ → ℕ → ℕ
curve_kind_cause kind curve_kind = when (eqb kind 1 && ltb 1 curve_kind) 1

unfoldable pub vertex_row_cause : List ℕ → List Float → ℕ → ℕ
vertex_row_cause ns fs i =
    lower_of (kind_cause (vertex_kind_at ns i))
    (lower_of (curve_kind_cause (vertex_kind_at ns i) (curve_kind_at ns i)) (vertex_cause (vertex_at ns fs i)))

-- ---- tables: 1 where "a bound on a count is passed by the input" or "a count .. is above what was lent", else the lowest of its rows

-- n rows of w numbers and v floats, by the cause of a row
abbrev pub table_cause : ℕ → ℕ → (ℕ → ℕ) → List ℕ → List Float → ℕ → ℕ
table_cause w v row ns fs n = pick (ltb 4096 n) 1 (pick (ltb (length ns) (n * w)) 1 (pick (ltb (length fs) (n * v)) 1 (lowest_of row n)))

unfoldable pub edges_cause : ℕ → List ℕ → List Float → ℕ → ℕ
edges_cause vertices ns fs n = table_cause numbers_per_edge floats_per_edge (edge_row_cause vertices ns fs) ns fs n

unfoldable pub vertices_cause : List ℕ → List Float → ℕ → ℕ
vertices_cause ns fs n = table_cause numbers_per_vertex floats_per_vertex (vertex_row_cause ns fs) ns fs n

-- 7: "Any vertex lent to nearest ends or to the non-simple search is pending". A table that does not lie in its slice has cause 1.
abbrev pub pending_row_cause : List ℕ → ℕ → ℕ
pending_row_cause ns i = when (eqb (vertex_kind_at ns i) 1) 7

unfoldable pub pending_cause : List ℕ → ℕ → ℕ
pending_cause ns n = pick (ltb 4096 n) 0 (pick (ltb (length ns) (n * numbers_per_vertex)) 0 (lowest_of (pending_row_cause ns) n))

-- ---- wires: n of them, with as many lengths, and as many uses as the sum of these

unfoldable pub uses_cause : ℕ → List ℕ → ℕ → ℕ
uses_cause edges us n = lowest_of (λ k. edge_number_cause edges (get_or us k 0 / 2)) n

unfoldable pub wires_cause : ℕ → List ℕ → List ℕ → ℕ → ℕ
wires_cause edges us ls n =
    pick (ltb 64 n) 1
    (pick (ltb (length ls) n) 1
    (pick (ltb 1024 (total (take n ls))) 1
    (pick (ltb (length us) (total (take n ls))) 1 (uses_cause edges us (total (take n ls))))))
