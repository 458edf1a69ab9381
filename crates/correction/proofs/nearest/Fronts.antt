-- The front of a stretch that is nearest to a vertex: the best so far, with the fronts that are left, is the best of all.
-- Assumes nothing.
use mathlib.Core.Path.{◌≡◌, refl, ap, sym, ◌∙◌}
use mathlib.Core.Bool.{Bool, true, false}
use mathlib.Core.List.{List, [], ◌∷◌, foldl}
use Prim.Native.Nat.{ℕ, suc, ◌+◌, ◌/◌, ◌≤◌, ◌<◌}
use native.Mathlib.Numerals.{add-one}
use native.Mathlib.Omega.{arith}
use lib.ListN.{length, get_or, drop, drop_of_length-le}
use lib.Seq.{drop-cons}
use lib.Ieee.{Float, lt}
use Rattle.compress.specs.declared.Edge.{Edge}
use Rattle.compress.specs.declared.Vertex.{Vertex}
use Rattle.compress.specs.Records.{pick, forward, front_of, front_at}
use Rattle.compress.specs.Rows.{HasVertex, HasEdge}
use Rattle.compress.specs.Said.{result}
use Rattle.correction.specs.declared.nearest.sound.SoundTables.{SoundTables}
use Rattle.rows.specs.Held.{edges_in}
use Rattle.checks.proofs.Accepted.{edges_accepted, edge_ends, vertices_accepted}
use Rattle.compress.specs.Choice.{smaller}
use Rattle.correction.specs.declared.nearest.Away.{Away}
use Rattle.compress.specs.Points.{point_of}
use Rattle.correction.specs.nearest.Ends.{away_at, gap_of, gap_from, fronts_of, nearest_front, ends_from, nearest_ends}

pick_below : (b : Bool) (x y v : ℕ) → x < v → y < v → pick b x y < v
pick_below true x y v h k = h
pick_below false x y v h k = k

module _ (t : SoundTables) where
  -- the front of a use is one of the vertices
  pub front_below : (u f : ℕ) → u / 2 < t.edges.count → f ≡ front_at (edges_in t.edges) u → f < t.vertices.count
  unfolding front_at front_of
  front_below u f h r =
      let e = edges_in t.edges (u / 2) in
      let a = edge_ends t.vertices.count e ((edges_accepted _ _ _ _ t.edges_sound).rows (u / 2) h) in
      rw r (pick_below (forward u) e.front e.back t.vertices.count a.0 a.1)

  -- the row of a use's edge, and of a vertex, lies in its slices
  pub edge_row : (i : ℕ) → i < t.edges.count → HasEdge t.edges.numbers.now t.edges.floats.now i
  edge_row i h =
      let a = edges_accepted _ _ _ _ t.edges_sound in
      (omega (arith, a.numbers), omega (arith, a.floats))

  pub vertex_row : (i : ℕ) → i < t.vertices.count → HasVertex t.vertices.numbers.now t.vertices.floats.now i
  vertex_row i h =
      let a = vertices_accepted _ _ _ t.vertices_sound in
      (omega (arith, a.numbers), omega (arith, a.floats))

pub smaller_below : (f : ℕ → Float) (a b v : ℕ) → a < v → b < v → smaller f a b < v
unfolding smaller
smaller_below f a b v h k = pick_below (lt (f b) (f a)) b a v k h

-- of two vertices the one that is less away is the one that is nearer
less_away : (vs : ℕ → Vertex) (p a b : ℕ) → smaller gap_of (away_at vs (point_of (vs p)) a) (away_at vs (point_of (vs p)) b) ≡ away_at vs (point_of (vs p)) (smaller (gap_from vs p) a b)
unfolding smaller gap_from
less_away vs p a b = by (lt (gap_from vs p b) (gap_from vs p a))
  where
    by : (t : Bool) → pick t (away_at vs (point_of (vs p)) b) (away_at vs (point_of (vs p)) a) ≡ away_at vs (point_of (vs p)) (pick t b a)
    by true = refl
    by false = refl

-- the best of the fronts so far, with those of the uses us from place i on that are left
pub record Seeking (es : ℕ → Edge) (vs : ℕ → Vertex) (p v u : ℕ) (us : List ℕ) (i : ℕ) (best : Away) : Type 0 where
  pub below : best.vertex < v
  pub away : best ≡ away_at vs (point_of (vs p)) best.vertex
  pub is : foldl (smaller (gap_from vs p)) best.vertex (fronts_of es (drop i us)) ≡ nearest_front es vs p u us

module _ (es : ℕ → Edge) (vs : ℕ → Vertex) (p v u : ℕ) (us : List ℕ) where
  pub seeking_start : (f : ℕ) (best : Away) → f ≡ front_at es u → f < v → best ≡ away_at vs (point_of (vs p)) f → Seeking es vs p v u us 0 best
  unfolding nearest_front
  seeking_start f best q b e = rw e (record { below = b; away = refl; is = rw q })

  pub seeking_turn : (i f : ℕ) (best next : Away) → Seeking es vs p v u us i best → i < length us → f ≡ front_at es (get_or us i 0) → f < v
      → next ≡ smaller gap_of best (away_at vs (point_of (vs p)) f) → Seeking es vs p v u us (i + 1) next
  unfolding fronts_of
  seeking_turn i f best next S lt q b e =
      let d : drop i us ≡ get_or us i 0 ∷ drop (i + 1) us = rw (add-one i) (drop-cons us i 0 lt) in
      let n : next ≡ away_at vs (point_of (vs p)) (smaller (gap_from vs p) best.vertex f)
      = e ∙ ap (λ (a : Away). smaller gap_of a (away_at vs (point_of (vs p)) f)) S.away ∙ less_away vs p best.vertex f in
      rw n
      (record {
        below = smaller_below (gap_from vs p) best.vertex f v S.below b;
        away = refl;
        is = rw q (rw d at S.is);
      })

  pub seeking_done : (i : ℕ) (best : Away) → Seeking es vs p v u us i best → length us ≤ i → best.vertex ≡ nearest_front es vs p u us
  unfolding fronts_of
  seeking_done i best S h = rw (drop_of_length-le us h) at S.is

-- ---- nearest ends
split_first : (us : List ℕ) → 0 < length us → us ≡ get_or us 0 0 ∷ drop 1 us
split_first [] h = absurd (none h)
  where
    none : 0 < 0 → ⊥
    none g = omega arith
split_first (u ∷ us) h = refl

-- of two stretches that are not empty
pub ends_found : (es : ℕ → Edge) (vs : ℕ → Vertex) (v0 : ℕ) (first second : List ℕ) (v1 w0 : ℕ) → (length second ≡ 0 → ⊥) → (length first ≡ 0 → ⊥)
    → v1 ≡ nearest_front es vs v0 (get_or second 0 0) (drop 1 second) → w0 ≡ nearest_front es vs v1 (get_or first 0 0) (drop 1 first)
    → result (record { v0 = w0; v1 = v1 }) ≡ nearest_ends es vs v0 first second
unfolding nearest_ends
ends_found es vs v0 first second v1 w0 ns nf p q =
    let a : second ≡ get_or second 0 0 ∷ drop 1 second = split_first second (omega (arith, ns)) in
    let b : first ≡ get_or first 0 0 ∷ drop 1 first = split_first first (omega (arith, nf)) in
    let e : nearest_ends es vs v0 first second ≡ ends_from es vs (nearest_front es vs v0 (get_or second 0 0) (drop 1 second)) first
    = ap (nearest_ends es vs v0 first) a in
    let g : ends_from es vs v1 first ≡ result (record { v0 = nearest_front es vs v1 (get_or first 0 0) (drop 1 first); v1 = v1 })
    = ap (ends_from es vs v1) b in
    rw q (sym (e ∙ rw (← p) g))

-- the uses after the first of a stretch are uses of it
pub uses_after : (m : ℕ) (w us : List ℕ) (u : ℕ) → w ≡ u ∷ us → ((k : ℕ) → k < length w → get_or w k 0 / 2 < m) → (k : ℕ) → k < length us → get_or us k 0 / 2 < m
uses_after m w us u e h k lt = let g = rw e at h in g (suc k) (omega arith)
