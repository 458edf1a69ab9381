-- Every cause of this crate is 0 or a number of the table.
-- Assumes nothing.
use mathlib.Core.Path.{refl}
use mathlib.Core.Bool.{Bool, true, false, not, ◌&&◌}
use mathlib.Core.List.{List}
use mathlib.Core.Logic.{inl, inr}
use Prim.Native.Nat.{ℕ, zero, suc, ◌*◌, ◌/◌}
use lib.Dec.{eqb, ltb, leb}
use lib.ListN.{length, get_or, take}
use lib.Ieee.{Float, lt}
use Rattle.compress.specs.Constants.{zero64}
use Rattle.floats.specs.Exact.{sized_of}
use Rattle.compress.specs.declared.Uv.{Uv}
use Rattle.compress.specs.declared.Curve.{Curve}
use Rattle.compress.specs.declared.Curve.TheVariants.{Span, Seam}
use Rattle.compress.specs.declared.Edge.{Edge}
use Rattle.compress.specs.declared.Vertex.{Vertex}
use Rattle.compress.specs.declared.Vertex.TheVariants.{Given, Pending}
use Rattle.compress.specs.declared.Refusal.{Refusal}
use Rattle.compress.specs.declared.Refusal.TheVariants.{Malformed, VertexNumber, EdgeNumber, NotSized, OutOfRange, PendingVertex}
use Rattle.compress.specs.Records.{pick, first_of, last_of}
use Rattle.compress.specs.Refusals.{refusal_number, IsCause}
use Rattle.compress.specs.Rows.{edge_kind_at, preparation_at, vertex_kind_at, curve_kind_at, edge_at, vertex_at}
use Rattle.compress.specs.Wires.{total}
use Rattle.checks.specs.Causes.{when, lower_of, lowest_of, kind_cause, preparation_cause, vertex_number_cause, edge_number_cause, float_cause, range_cause, parameter_cause, period_cause, uv_cause, curve_cause, edge_cause, point_cause, vertex_cause, edge_row_cause, curve_kind_cause, vertex_row_cause, table_cause, edges_cause, vertices_cause, pending_row_cause, pending_cause, uses_cause, wires_cause}
use Rattle.checks.proofs.Lowest.{Lower, none, first, second, lower_is}

-- ---- by how a cause is put together
pub none_is : IsCause 0
none_is = inl refl

pub of_table : (r : Refusal) → IsCause (refusal_number r)
of_table r = inr (r, refl)

pub when_is : (b : Bool) (r : Refusal) → IsCause (when b (refusal_number r))
when_is true r = of_table r
when_is false r = none_is

pub pick_is : (b : Bool) {x y : ℕ} → IsCause x → IsCause y → IsCause (pick b x y)
pick_is true p q = p
pick_is false p q = q

pub lower_told : (a b : ℕ) → IsCause a → IsCause b → IsCause (lower_of a b)
lower_told a b p q = by (lower_is a b)
  where
    by : Lower a b (lower_of a b) → IsCause (lower_of a b)
    by (none x y r) = rw r none_is
    by (first x r y) = rw r p
    by (second x r y) = rw r q

pub lowest_told : (f : ℕ → ℕ) (n : ℕ) → ((i : ℕ) → IsCause (f i)) → IsCause (lowest_of f n)
unfolding lowest_of
lowest_told f zero h = none_is
lowest_told f (suc n) h = lower_told (lowest_of f n) (f n) (lowest_told f n h) (h n)

-- ---- lone numbers
pub float_told : (x : Float) → IsCause (float_cause x)
unfolding float_cause
float_told x = when_is (not (sized_of x)) NotSized

pub range_told : (t0 t1 : Float) → IsCause (range_cause t0 t1)
unfolding range_cause
range_told t0 t1 =
    lower_told (float_cause t0) _ (float_told t0) (lower_told (float_cause t1) _ (float_told t1) (when_is (lt t1 t0) OutOfRange))

pub parameter_told : (t0 t1 t : Float) → IsCause (parameter_cause t0 t1 t)
unfolding parameter_cause
parameter_told t0 t1 t =
    lower_told (float_cause t) _ (float_told t) (lower_told (when (lt t t0) 5) _ (when_is (lt t t0) OutOfRange) (when_is (lt t1 t) OutOfRange))

pub period_told : (p : Float) → IsCause (period_cause p)
unfolding period_cause
period_told p = lower_told (float_cause p) _ (float_told p) (when_is (not (lt zero64 p)) OutOfRange)

-- ---- records
pub uv_told : (p : Uv) → IsCause (uv_cause p)
unfolding uv_cause
uv_told p = lower_told (float_cause p.u) _ (float_told p.u) (float_told p.v)

pub curve_told : (c : Curve) → IsCause (curve_cause c)
unfolding curve_cause
curve_told (Span n t0 t1) = range_told t0 t1
curve_told (Seam n p q t0 t1) = lower_told (uv_cause p) _ (uv_told p) (lower_told (uv_cause q) _ (uv_told q) (range_told t0 t1))

pub edge_told : (v : ℕ) (e : Edge) → IsCause (edge_cause v e)
unfolding edge_cause
edge_told v e =
    lower_told (vertex_number_cause v e.front) _ (when_is (leb v e.front) VertexNumber)
    (lower_told (vertex_number_cause v e.back) _ (when_is (leb v e.back) VertexNumber) (curve_told e.curve))

pub point_told : (x y z : Float) → IsCause (point_cause x y z)
unfolding point_cause
point_told x y z = lower_told (float_cause x) _ (float_told x) (lower_told (float_cause y) _ (float_told y) (float_told z))

pub vertex_told : (v : Vertex) → IsCause (vertex_cause v)
unfolding vertex_cause
vertex_told (Given x y z) = point_told x y z
vertex_told (Pending c t) = lower_told (curve_cause c) _ (curve_told c) (parameter_told (first_of c) (last_of c) t)

-- ---- tables and wires
pub table_told : (w v : ℕ) (row : ℕ → ℕ) (ns : List ℕ) (fs : List Float) (n : ℕ) → ((i : ℕ) → IsCause (row i)) → IsCause (table_cause w v row ns fs n)
table_told w v row ns fs n h =
    pick_is (ltb 4096 n) (of_table Malformed)
    (pick_is (ltb (length ns) (n * w)) (of_table Malformed)
    (pick_is (ltb (length fs) (n * v)) (of_table Malformed) (lowest_told row n h)))

pub edges_told : (v : ℕ) (ns : List ℕ) (fs : List Float) (n : ℕ) → IsCause (edges_cause v ns fs n)
unfolding edges_cause edge_row_cause
edges_told v ns fs n =
    table_told _ _ (edge_row_cause v ns fs) ns fs n
    (λ i.
    lower_told (kind_cause (edge_kind_at ns i)) _ (when_is (ltb 1 (edge_kind_at ns i)) Malformed)
    (lower_told (preparation_cause (preparation_at ns i)) _ (when_is (ltb 2 (preparation_at ns i)) Malformed) (edge_told v (edge_at ns fs i))))

pub vertices_told : (ns : List ℕ) (fs : List Float) (n : ℕ) → IsCause (vertices_cause ns fs n)
unfolding vertices_cause vertex_row_cause
vertices_told ns fs n =
    table_told _ _ (vertex_row_cause ns fs) ns fs n
    (λ i.
    lower_told (kind_cause (vertex_kind_at ns i)) _ (when_is (ltb 1 (vertex_kind_at ns i)) Malformed)
    (lower_told (curve_kind_cause (vertex_kind_at ns i) (curve_kind_at ns i)) _
    (when_is (eqb (vertex_kind_at ns i) 1 && ltb 1 (curve_kind_at ns i)) Malformed) (vertex_told (vertex_at ns fs i))))

pub pending_told : (ns : List ℕ) (n : ℕ) → IsCause (pending_cause ns n)
unfolding pending_cause
pending_told ns n =
    pick_is (ltb 4096 n) none_is
    (pick_is _ none_is (lowest_told (pending_row_cause ns) n (λ i. when_is (eqb (vertex_kind_at ns i) 1) PendingVertex)))

pub uses_told : (e : ℕ) (us : List ℕ) (n : ℕ) → IsCause (uses_cause e us n)
unfolding uses_cause
uses_told e us n = lowest_told (λ k. edge_number_cause e (get_or us k 0 / 2)) n (λ k. when_is (leb e (get_or us k 0 / 2)) EdgeNumber)

pub wires_told : (e : ℕ) (us ls : List ℕ) (n : ℕ) → IsCause (wires_cause e us ls n)
unfolding wires_cause
wires_told e us ls n =
    pick_is (ltb 64 n) (of_table Malformed)
    (pick_is (ltb (length ls) n) (of_table Malformed)
    (pick_is (ltb 1024 (total (take n ls))) (of_table Malformed)
    (pick_is (ltb (length us) (total (take n ls))) (of_table Malformed) (uses_told e us (total (take n ls))))))
