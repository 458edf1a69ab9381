-- How many cuts both tables have room for, said of the tables and of their views. Assumes nothing.
use Rattle.std.proofs.Common.{◌≡◌, refl, ℕ, ◌+◌, ◌*◌, ◌≤◌, true, ◌&&◌, leb, List, Float, length}
use Rattle.std.proofs.Common.{arith}
use borrow.Author.Tests.{leb-true, le-leb}
use Rattle.compress.specs.Shell.{rows_fit, vertices_fit, edges_fit}
use Rattle.compress.specs.Rows.{numbers_per_edge, floats_per_edge, numbers_per_vertex, floats_per_vertex}
use Rattle.std.proofs.lemmas.Bool.{and_parts}
use Rattle.rows.proofs.Room.{Least, same_test}
use Rattle.checks.proofs.Accepted.{VerticesAccepted, EdgesAccepted}

pub room_for : (vn : List ℕ) (vf : List Float) (en : List ℕ) (ef : List Float) (v e a b r : ℕ)
    → ((k : ℕ) → leb k a ≡ rows_fit numbers_per_vertex floats_per_vertex vn vf (v + k)) → ((k : ℕ) → leb k b ≡ rows_fit numbers_per_edge floats_per_edge en ef (e + k)) → Least a b r
    → (k : ℕ) → leb k r ≡ (vertices_fit vn vf (v + k) && edges_fit en ef (e + k))
unfolding vertices_fit edges_fit
room_for vn vf en ef v e a b r p q l k = rw (← p k, ← q k) (same_test (leb k r) (leb k a && leb k b) to from)
  where
    to : leb k r ≡ true → (leb k a && leb k b) ≡ true
    to h =
        let g = leb-true k r h in
        rw (le-leb k a (omega (arith, g, l.first)), le-leb k b (omega (arith, g, l.second))) refl

    from : (leb k a && leb k b) ≡ true → leb k r ≡ true
    from h =
        let g = and_parts (leb k a) (leb k b) h in
        le-leb k r (l.most k (leb-true k a g.0) (leb-true k b g.1))

-- what is read through the view of a table: its numbers, its floats and its count
abbrev pub Viewed : List ℕ → List Float → ℕ → List ℕ → List Float → ℕ → Type 0
Viewed ns fs n vn vf v = record { numbers_value : ns ≡ vn; floats_value : fs ≡ vf; count_value : n ≡ v }

module _ {ns ms vn en : List ℕ} {fs gs vf ef : List Float} {n m v e : ℕ} (a : Viewed ns fs n vn vf v) (b : Viewed ms gs m en ef e) where
  -- what `cut_room` asks of two views
  pub views_asked : VerticesAccepted vn vf v → EdgesAccepted v en ef e
      → record { vertices_bound : (n ≤ 4096) × (n * numbers_per_vertex ≤ length ns) × (n * floats_per_vertex ≤ length fs); edges_bound : (m ≤ 4096) × (m * numbers_per_edge ≤ length ms) × (m * floats_per_edge ≤ length gs) }
  views_asked V E =
      record {
        vertices_bound = rw (a.numbers_value, a.floats_value, a.count_value) (V.below, V.numbers, V.floats);
        edges_bound = rw (b.numbers_value, b.floats_value, b.count_value) (E.below, E.numbers, E.floats);
      }

  -- and what it tells of the tables
  pub views_room : (r : ℕ) → ((k : ℕ) → leb k r ≡ (vertices_fit ns fs (n + k) && edges_fit ms gs (m + k)))
      → (k : ℕ) → leb k r ≡ (vertices_fit vn vf (v + k) && edges_fit en ef (e + k))
  views_room r h k = rw (a.numbers_value, a.floats_value, a.count_value, b.numbers_value, b.floats_value, b.count_value) at (h k)
