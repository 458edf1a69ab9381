-- The edges after a split, off the lent slices: how many seams there are and which, the front and the back of a use, and that every use to be
-- walked has an edge. Assumes nothing.
use mathlib.Core.Path.{◌≡◌, refl, ap, sym, ◌∙◌}
use mathlib.Core.Bool.{Bool, true, false}
use mathlib.Core.List.{List, [], ◌∷◌}
use Prim.Native.Nat.{ℕ, zero, suc, ◌+◌, ◌-◌, ◌*◌, ◌/◌, ◌%◌, ◌≤◌, ◌<◌}
use native.Mathlib.Omega.{arith}
use borrow.Author.Tests.{ltb-true, ltb-false}
use lib.Dec.{eqb, ltb}
use lib.ListN.{length, get_or, take, length-append, get_or-append}
use lib.Seq.{length-take-le, get_or-take, get_or-append-add}
use Rattle.compress.specs.declared.Edge.{Edge}
use Rattle.compress.specs.Records.{pick, front_of, back_of, front_at, back_at}
use Rattle.compress.specs.Rows.{numbers_per_edge, edge_of, edge_at}
use Rattle.compress.proofs.Layouts.{length_rows, row_at}
use Rattle.checks.proofs.Accepted.{edge_ends}
use Rattle.walk.specs.lists.Ends.{end_in, end_of}
use Rattle.walk.specs.lists.Ends as ends
use Rattle.split.specs.declared.seams.Stop.{Stop}
use Rattle.split.specs.seams.Seams.{stop_at, seam_of, seams_of}
use Rattle.walk.specs.marks.Marks.{new_uses}
use Rattle.walk.proofs.marks.Marks.{length_new_uses, get_or_new_uses}
use Rattle.split.specs.Split.{seams, edges_after, no_edge, edge_after, front_after, back_after, uses_to_walk}
use Rattle.split.specs.split_causes.Causes.{LentSplit, rebuilt_total, pairs, split_count}
use Rattle.split.specs.Contract.{given_in}
use Rattle.split.proofs.split_causes.Accepted.{SplitAccepted}

-- ---- the seams between the vertices of a list

pub length_seams_of : (s : ℕ) (ps : List Stop) → length (seams_of s ps) ≡ length ps / 2
unfolding seams_of
length_seams_of s [] = refl
length_seams_of s (a ∷ []) = refl
length_seams_of s (a ∷ b ∷ ps) = omega (arith, length_seams_of s ps)

pub get_or_seams_of : (s : ℕ) (d : Edge) (z : Stop) (ps : List Stop) (k : ℕ) → k < length ps / 2
    → get_or (seams_of s ps) k d ≡ seam_of s (get_or ps (k * 2) z) (get_or ps (k * 2 + 1) z)
unfolding seams_of
get_or_seams_of s d z [] k h = absurd (omega arith)
get_or_seams_of s d z (a ∷ []) k h = absurd (omega arith)
get_or_seams_of s d z (a ∷ b ∷ ps) zero h = refl
get_or_seams_of s d z (a ∷ b ∷ ps) (suc k) h =
    let p : suc k * 2 ≡ suc (suc (k * 2)) = omega arith in
    let q : suc k * 2 + 1 ≡ suc (suc (k * 2 + 1)) = omega arith in
    rw (q, p) (get_or_seams_of s d z ps k (omega arith))

-- ---- off the lent slices

module _ (l : LentSplit) where
  pub length_seams : length (seams (given_in l)) ≡ pairs l
  unfolding given_in
  length_seams = length_seams_of l.surface _ ∙ ap (λ (n : ℕ). n / 2) (length_rows (stop_at l.divisor l.points) 0 l.stops)

  pub get_or_seams : (k : ℕ) → k < pairs l
      → get_or (seams (given_in l)) k no_edge
      ≡ seam_of l.surface (stop_at l.divisor l.points (k * 2)) (stop_at l.divisor l.points (k * 2 + 1))
  unfolding given_in
  get_or_seams k h =
      let at = stop_at l.divisor l.points in
      let n = length_rows at 0 l.stops in
      let read : (i : ℕ) → i < l.stops → get_or (given_in l).stops i (at 0) ≡ at i
      = λ i g. row_at (at 0) at l.stops i g in
      get_or_seams_of l.surface no_edge (at 0) (given_in l).stops k (omega arith)
      ∙ rw (read (k * 2) (omega arith), read (k * 2 + 1) (omega arith))

  pub length_edges : length (given_in l).edges ≡ l.edges
  unfolding given_in
  length_edges = length_rows (edge_at l.buffers.en l.buffers.ef) 0 l.edges

  -- the edges after the split
  pub length_after : length (edges_after (given_in l)) ≡ l.edges + pairs l
  length_after = length-append (given_in l).edges (seams (given_in l)) ∙ rw (length_edges, length_seams)

  -- a lent edge
  pub edge_row : (i : ℕ) → i < l.edges → edge_after (given_in l) i ≡ edge_at l.buffers.en l.buffers.ef i
  unfolding given_in
  edge_row i h =
      get_or-append (given_in l).edges (seams (given_in l)) no_edge i (omega (arith, length_edges))
      ∙ row_at no_edge (edge_at l.buffers.en l.buffers.ef) l.edges i h

  -- an edge that is added
  pub edge_seam : (k : ℕ) → k < pairs l
      → edge_after (given_in l) (l.edges + k)
      ≡ seam_of l.surface (stop_at l.divisor l.points (k * 2)) (stop_at l.divisor l.points (k * 2 + 1))
  edge_seam k h =
      ap (λ (n : ℕ). edge_after (given_in l) (n + k)) (sym length_edges)
      ∙ get_or-append-add (given_in l).edges (seams (given_in l)) k no_edge ∙ get_or_seams k h

  -- the vertices that are lent to the walk
  abbrev pub paired : List ℕ
  paired = take (pairs l * 2) l.divisor

  -- end j of edge e, of the edges after the split
  abbrev end_after : ℕ → Edge → ℕ
  end_after j e = pick (eqb j 0) e.front e.back

  end_lent : (e j : ℕ) → e < l.edges + pairs l → j < 2 → end_after j (edge_after (given_in l) e) ≡ end_of l.buffers.en paired l.edges e j
  unfolding end_of edge_of seam_of
  end_lent e j h g = go j g (ltb e l.edges) refl
    where
      row : e < l.edges → edge_after (given_in l) e ≡ edge_at l.buffers.en l.buffers.ef e
      row q = edge_row e q

      seam : l.edges ≤ e
          → edge_after (given_in l) e
          ≡ seam_of l.surface (stop_at l.divisor l.points ((e - l.edges) * 2)) (stop_at l.divisor l.points ((e - l.edges) * 2 + 1))
      seam q =
          let p : e ≡ l.edges + (e - l.edges) = omega arith in
          ap (edge_after (given_in l)) p ∙ edge_seam (e - l.edges) (omega arith)

      go : (i : ℕ) → i < 2 → (b : Bool) → ltb e l.edges ≡ b → end_after i (edge_after (given_in l) e) ≡ end_in b l.buffers.en paired l.edges e i
      go zero a true q =
          let p : e * numbers_per_edge + 0 ≡ e * numbers_per_edge = omega arith in
          ap (end_after 0) (row (ltb-true e l.edges q)) ∙ rw p
      go (suc zero) a true q = ap (end_after 1) (row (ltb-true e l.edges q))
      go zero a false q =
          let p : (e - l.edges) * 2 + 0 ≡ (e - l.edges) * 2 = omega arith in
          let b = ltb-false e l.edges q in
          ap (end_after 0) (seam b) ∙ rw p (sym (get_or-take (pairs l * 2) l.divisor ((e - l.edges) * 2) 0 (omega arith)))
      go (suc zero) a false q =
          let b = ltb-false e l.edges q in
          ap (end_after 1) (seam b) ∙ sym (get_or-take (pairs l * 2) l.divisor ((e - l.edges) * 2 + 1) 0 (omega arith))
      go (suc (suc i)) a b q = absurd (omega arith)

  -- the front and the back of a use, as the walk reads them
  pub front_lent : (u : ℕ) → u / 2 < l.edges + pairs l → front_after (given_in l) u ≡ ends.front_of l.buffers.en paired l.edges u
  unfolding front_at front_of
  front_lent u h = end_lent (u / 2) (u % 2) h (omega arith)

  pub back_lent : (u : ℕ) → u / 2 < l.edges + pairs l → back_after (given_in l) u ≡ ends.back_of l.buffers.en paired l.edges u
  unfolding back_at back_of
  back_lent u h = other (u % 2) (omega arith) ∙ end_lent (u / 2) (1 - u % 2) h (omega arith)
    where
      other : (i : ℕ) → i < 2
          → pick (eqb i 0) (edge_after (given_in l) (u / 2)).back (edge_after (given_in l) (u / 2)).front ≡ end_after (1 - i) (edge_after (given_in l) (u / 2))
      other zero a = refl
      other (suc zero) a = refl
      other (suc (suc i)) a = absurd (omega arith)

  -- every use to be walked is counted
  module _ (a : SplitAccepted l) where
    length_rebuilt : length (given_in l).rebuilt ≡ rebuilt_total l
    unfolding given_in
    length_rebuilt = length-take-le (rebuilt_total l) l.rebuilt_uses a.rebuilt_uses

    rebuilt_at : (k : ℕ) → k < rebuilt_total l → get_or (given_in l).rebuilt k 0 ≡ get_or l.rebuilt_uses k 0
    unfolding given_in
    rebuilt_at k h = get_or-take (rebuilt_total l) l.rebuilt_uses k 0 h

    pub length_uses : length (uses_to_walk (given_in l)) ≡ split_count l
    length_uses =
        length-append (given_in l).rebuilt _
        ∙ omega (arith, length_rebuilt, length_seams, length_new_uses (length (given_in l).edges) (length (seams (given_in l))))

    -- and its edge is there
    pub uses_known : (k : ℕ) → k < length (uses_to_walk (given_in l)) → get_or (uses_to_walk (given_in l)) k 0 / 2 < l.edges + pairs l
    uses_known k h = go (ltb k (rebuilt_total l)) refl
      where
        new : List ℕ
        new = new_uses (length (given_in l).edges) (length (seams (given_in l)))

        go : (b : Bool) → ltb k (rebuilt_total l) ≡ b → get_or (uses_to_walk (given_in l)) k 0 / 2 < l.edges + pairs l
        go true q =
            let g = ltb-true k (rebuilt_total l) q in
            rw (get_or-append (given_in l).rebuilt new 0 k (omega (arith, length_rebuilt)), rebuilt_at k g) (omega (arith, a.rebuilt_known k g))
        go false q =
            let g = ltb-false k (rebuilt_total l) q in
            let i = k - rebuilt_total l in
            let p : k ≡ length (given_in l).rebuilt + i = omega (arith, length_rebuilt) in
            let r : get_or (uses_to_walk (given_in l)) k 0 ≡ length (given_in l).edges * 2 + i
            = ap (λ (n : ℕ). get_or (uses_to_walk (given_in l)) n 0) p ∙ get_or-append-add (given_in l).rebuilt new i 0
            ∙ get_or_new_uses (length (given_in l).edges) (length (seams (given_in l))) i (omega (arith, length_uses, length_seams)) in
            omega (arith, length_edges, length_uses)

    -- the ends of these edges are vertices
    ends_below : (e : ℕ) → e < l.edges + pairs l → ((edge_after (given_in l) e).front < l.vertices) × ((edge_after (given_in l) e).back < l.vertices)
    unfolding seam_of
    ends_below e h = go (ltb e l.edges) refl
      where
        go : (b : Bool) → ltb e l.edges ≡ b → ((edge_after (given_in l) e).front < l.vertices) × ((edge_after (given_in l) e).back < l.vertices)
        go true q =
            let g = ltb-true e l.edges q in
            rw (edge_row e g) (edge_ends l.vertices (edge_at l.buffers.en l.buffers.ef e) (a.edges.rows e g))
        go false q =
            let g = ltb-false e l.edges q in
            let p : e ≡ l.edges + (e - l.edges) = omega arith in
            let s = ap (edge_after (given_in l)) p ∙ edge_seam (e - l.edges) (omega arith) in
            rw s (a.stops_known ((e - l.edges) * 2) (omega arith), a.stops_known ((e - l.edges) * 2 + 1) (omega arith))

    pub front_below : (u : ℕ) → u / 2 < l.edges + pairs l → front_after (given_in l) u < l.vertices
    unfolding front_at front_of
    front_below u h = go (eqb (u % 2) 0) (ends_below (u / 2) h)
      where
        go : (b : Bool) → ((edge_after (given_in l) (u / 2)).front < l.vertices) × ((edge_after (given_in l) (u / 2)).back < l.vertices)
            → pick b (edge_after (given_in l) (u / 2)).front (edge_after (given_in l) (u / 2)).back < l.vertices
        go true r = r.0
        go false r = r.1

    pub back_below : (u : ℕ) → u / 2 < l.edges + pairs l → back_after (given_in l) u < l.vertices
    unfolding back_at back_of
    back_below u h = go (eqb (u % 2) 0) (ends_below (u / 2) h)
      where
        go : (b : Bool) → ((edge_after (given_in l) (u / 2)).front < l.vertices) × ((edge_after (given_in l) (u / 2)).back < l.vertices)
            → pick b (edge_after (given_in l) (u / 2)).back (edge_after (given_in l) (u / 2)).front < l.vertices
        go true r = r.1
        go false r = r.0
