-- What an input without a cause is: within its bounds and what was lent, and every row, kind and use in order.
-- Assumes nothing.
use mathlib.Core.Path.{◌≡◌, refl}
use mathlib.Core.Bool.{Bool, true, false, false≢true, ◌&&◌}
use mathlib.Core.List.{List}
use Prim.Native.Nat.{ℕ, suc, ◌*◌, ◌/◌, ◌≤◌, ◌<◌}
use native.Mathlib.Omega.{arith}
use borrow.Author.Tests.{ltb-false, leb-false, eq-eqb}
use lib.Dec.{eqb, leb, ltb}
use lib.ListN.{length, get_or, take}
use lib.Ieee.{Float}
use Rattle.compress.specs.declared.Edge.{Edge}
use Rattle.compress.specs.Records.{pick}
use Rattle.compress.specs.Rows.{numbers_per_edge, floats_per_edge, numbers_per_vertex, floats_per_vertex, edge_kind_at, preparation_at, KnownEdge, vertex_kind_at, curve_kind_at, edge_at, vertex_at}
use Rattle.compress.specs.Wires.{total}
use Rattle.checks.specs.Causes.{when, kind_cause, preparation_cause, curve_kind_cause, edge_cause, vertex_cause, edge_number_cause, edge_row_cause, vertex_row_cause, edges_cause, vertices_cause, uses_cause, wires_cause}
use Rattle.checks.proofs.Lowest.{lower_none, lowest_none}

-- a test with a cause of its own did not hold, and what follows it has none
pub passed_by : (k : ℕ) (b : Bool) (n : ℕ) → pick b (suc k) n ≡ 0 → (b ≡ false) × (n ≡ 0)
passed_by k true n e = absurd (omega arith)
passed_by k false n e = (refl, e)

pub passed : (b : Bool) (n : ℕ) → pick b 1 n ≡ 0 → (b ≡ false) × (n ≡ 0)
passed = passed_by 0

pub not_when : (b : Bool) (n : ℕ) → when b (suc n) ≡ 0 → b ≡ false
not_when true n e = absurd (omega arith)
not_when false n e = refl

and_known : (a b : Bool) → (a && b) ≡ false → a ≡ true → b ≡ false
and_known true b e q = e
and_known false b e q = absurd (false≢true q)

kind_known : (k : ℕ) → kind_cause k ≡ 0 → k < 2
kind_known k e = let h = ltb-false 1 k (not_when (ltb 1 k) 0 e) in omega arith

preparation_known : (n : ℕ) → preparation_cause n ≡ 0 → n < 3
preparation_known n e = let h = ltb-false 2 n (not_when (ltb 2 n) 0 e) in omega arith

-- a table of n edges between v vertices
pub record EdgesAccepted (v : ℕ) (ns : List ℕ) (fs : List Float) (n : ℕ) : Type 0 where
  pub below : n ≤ 4096
  pub numbers : n * numbers_per_edge ≤ length ns
  pub floats : n * 6 ≤ length fs
  pub known : (i : ℕ) → i < n → KnownEdge ns i
  pub rows : (i : ℕ) → i < n → edge_cause v (edge_at ns fs i) ≡ 0

pub edges_accepted : (v : ℕ) (ns : List ℕ) (fs : List Float) (n : ℕ) → edges_cause v ns fs n ≡ 0 → EdgesAccepted v ns fs n
unfolding edges_cause edge_row_cause
edges_accepted v ns fs n e =
    let a = passed (ltb 4096 n) _ e in
    let b = passed (ltb (length ns) (n * numbers_per_edge)) _ a.1 in
    let c = passed (ltb (length fs) (n * floats_per_edge)) _ b.1 in
    let row : (i : ℕ) → i < n → (kind_cause (edge_kind_at ns i) ≡ 0) × (preparation_cause (preparation_at ns i) ≡ 0) × (edge_cause v (edge_at ns fs i) ≡ 0)
    = λ i h.
    let r = lower_none (kind_cause (edge_kind_at ns i)) _ (lowest_none (edge_row_cause v ns fs) n i c.1 h) in
    let s = lower_none (preparation_cause (preparation_at ns i)) (edge_cause v (edge_at ns fs i)) r.1 in
    (r.0, s.0, s.1) in
    record {
      below = ltb-false 4096 n a.0;
      numbers = ltb-false (length ns) (n * numbers_per_edge) b.0;
      floats = ltb-false (length fs) (n * floats_per_edge) c.0;
      known = λ i h. (kind_known (edge_kind_at ns i) (row i h).0, preparation_known (preparation_at ns i) (row i h).1);
      rows = λ i h. (row i h).2;
    }

-- a table of n vertices
pub record VerticesAccepted (ns : List ℕ) (fs : List Float) (n : ℕ) : Type 0 where
  pub below : n ≤ 4096
  pub numbers : n * numbers_per_vertex ≤ length ns
  pub floats : n * 7 ≤ length fs
  pub kinds : (i : ℕ) → i < n → vertex_kind_at ns i < 2
  pub curve_kinds : (i : ℕ) → i < n → vertex_kind_at ns i ≡ 1 → curve_kind_at ns i < 2
  pub rows : (i : ℕ) → i < n → vertex_cause (vertex_at ns fs i) ≡ 0

curve_kind_known : (k c : ℕ) → curve_kind_cause k c ≡ 0 → k ≡ 1 → c < 2
curve_kind_known k c e q =
    let h = ltb-false 1 c (and_known (eqb k 1) (ltb 1 c) (not_when (eqb k 1 && ltb 1 c) 0 e) (eq-eqb k 1 q)) in
    omega arith

pub vertices_accepted : (ns : List ℕ) (fs : List Float) (n : ℕ) → vertices_cause ns fs n ≡ 0 → VerticesAccepted ns fs n
unfolding vertices_cause vertex_row_cause
vertices_accepted ns fs n e =
    let a = passed (ltb 4096 n) _ e in
    let b = passed (ltb (length ns) (n * numbers_per_vertex)) _ a.1 in
    let c = passed (ltb (length fs) (n * floats_per_vertex)) _ b.1 in
    let row : (i : ℕ) → i < n → (kind_cause (vertex_kind_at ns i) ≡ 0) × (curve_kind_cause (vertex_kind_at ns i) (curve_kind_at ns i) ≡ 0) × (vertex_cause (vertex_at ns fs i) ≡ 0)
    = λ i h.
    let r = lower_none (kind_cause (vertex_kind_at ns i)) _ (lowest_none (vertex_row_cause ns fs) n i c.1 h) in
    let s = lower_none (curve_kind_cause (vertex_kind_at ns i) (curve_kind_at ns i)) (vertex_cause (vertex_at ns fs i)) r.1 in
    (r.0, s.0, s.1) in
    record {
      below = ltb-false 4096 n a.0;
      numbers = ltb-false (length ns) (n * numbers_per_vertex) b.0;
      floats = ltb-false (length fs) (n * floats_per_vertex) c.0;
      kinds = λ i h. kind_known (vertex_kind_at ns i) (row i h).0;
      curve_kinds = λ i h q. curve_kind_known (vertex_kind_at ns i) (curve_kind_at ns i) (row i h).1 q;
      rows = λ i h. (row i h).2;
    }

-- the first n uses
pub uses_in : (e : ℕ) (us : List ℕ) (n k : ℕ) → uses_cause e us n ≡ 0 → k < n → get_or us k 0 / 2 < e
unfolding uses_cause
uses_in e us n k q h =
    leb-false e (get_or us k 0 / 2) (not_when (leb e (get_or us k 0 / 2)) 2 (lowest_none (λ j. edge_number_cause e (get_or us j 0 / 2)) n k q h))

-- n wires over m edges
pub record WiresAccepted (m : ℕ) (us ls : List ℕ) (n : ℕ) : Type 0 where
  pub below : n ≤ 64
  pub lengths : n ≤ length ls
  pub few : total (take n ls) ≤ 1024
  pub uses : total (take n ls) ≤ length us
  pub edges : (k : ℕ) → k < total (take n ls) → get_or us k 0 / 2 < m

pub wires_accepted : (m : ℕ) (us ls : List ℕ) (n : ℕ) → wires_cause m us ls n ≡ 0 → WiresAccepted m us ls n
unfolding wires_cause
wires_accepted m us ls n e =
    let t = total (take n ls) in
    let a = passed (ltb 64 n) _ e in
    let b = passed (ltb (length ls) n) _ a.1 in
    let c = passed (ltb 1024 t) _ b.1 in
    let d = passed (ltb (length us) t) _ c.1 in
    record {
      below = ltb-false 64 n a.0;
      lengths = ltb-false (length ls) n b.0;
      few = ltb-false 1024 t c.0;
      uses = ltb-false (length us) t d.0;
      edges = λ k h. uses_in m us t k d.1 h;
    }

-- the ends of an edge without a cause
pub edge_ends : (v : ℕ) (e : Edge) → edge_cause v e ≡ 0 → (e.front < v) × (e.back < v)
unfolding edge_cause
edge_ends v e q =
    let a = lower_none (when (leb v e.front) 2) _ q in
    let b = lower_none (when (leb v e.back) 2) _ a.1 in
    (leb-false v e.front (not_when (leb v e.front) 1 a.0), leb-false v e.back (not_when (leb v e.back) 1 b.0))
