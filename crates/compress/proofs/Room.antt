-- What room for a result is, in numbers.
-- Assumes nothing.
use mathlib.Core.Path.{◌≡◌}
use mathlib.Core.Bool.{true, ◌&&◌}
use mathlib.Core.List.{List}
use Prim.Native.Nat.{ℕ, ◌*◌, ◌≤◌}
use borrow.Author.Tests.{leb-true}
use lib.Dec.{leb}
use lib.ListN.{length}
use lib.Ieee.{Float}
use Rattle.std.proofs.lemmas.Bool.{and_parts}
use Rattle.compress.specs.Shell.{rows_fit, vertices_fit, edges_fit, uses_fit}
use Rattle.compress.specs.Rows.{numbers_per_edge, floats_per_edge, numbers_per_vertex, floats_per_vertex}

three : (a b c : ℕ) (x y z : ℕ) → (leb a x && (leb b y && leb c z)) ≡ true → (a ≤ x) × (b ≤ y) × (c ≤ z)
three a b c x y z e =
    let p = and_parts (leb a x) (leb b y && leb c z) e in
    let q = and_parts (leb b y) (leb c z) p.1 in
    (leb-true a x p.0, leb-true b y q.0, leb-true c z q.1)

pub rows_room : (w v : ℕ) (ns : List ℕ) (fs : List Float) (n : ℕ) → rows_fit w v ns fs n ≡ true → (n ≤ 4096) × (n * w ≤ length ns) × (n * v ≤ length fs)
rows_room w v ns fs n e = three n (n * w) (n * v) 4096 (length ns) (length fs) e

pub vertices_room : (ns : List ℕ) (fs : List Float) (n : ℕ) → vertices_fit ns fs n ≡ true → (n ≤ 4096) × (n * numbers_per_vertex ≤ length ns) × (n * floats_per_vertex ≤ length fs)
unfolding vertices_fit
vertices_room = rows_room numbers_per_vertex floats_per_vertex

pub edges_room : (ns : List ℕ) (fs : List Float) (n : ℕ) → edges_fit ns fs n ≡ true → (n ≤ 4096) × (n * numbers_per_edge ≤ length ns) × (n * floats_per_edge ≤ length fs)
unfolding edges_fit
edges_room = rows_room numbers_per_edge floats_per_edge

pub uses_room : (us : List ℕ) (n : ℕ) → uses_fit us n ≡ true → (n ≤ 1024) × (n ≤ length us)
unfolding uses_fit
uses_room us n e =
    let p = and_parts (leb n 1024) (leb n (length us)) e in
    (leb-true n 1024 p.0, leb-true n (length us) p.1)
