-- The closed-edge pass keeps every preparation, and every piece has its mother's. Assumes nothing.
use mathlib.Core.Path.{◌≡◌, refl, ap, ◌∙◌}
use mathlib.Core.Bool.{Bool, true, false}
use mathlib.Core.List.{List, [], ◌∷◌, ◌++◌}
use Prim.Native.Nat.{ℕ, zero, suc, ◌+◌, ◌≤◌, ◌<◌}
use native.Mathlib.Omega.{arith}
use borrow.Author.Tests.{eqb-true, eqb-false}
use lib.Dec.{eqb}
use lib.ListN.{length, get_or, length-append}
use Rattle.std.specs.Prelude.{Option, Some, None}
use Rattle.compress.specs.declared.Counts.{Counts}
use lib.Ieee.{Float}
use Rattle.compress.specs.declared.Curve.{Curve}
use Rattle.compress.specs.declared.Edge.{Edge}
use Rattle.compress.specs.Records.{closed}
use Rattle.compress.specs.Rows.{edge_at}
use Rattle.compress.specs.Said.{result}
use Rattle.compress.specs.Shell.{Lent, load}
use Rattle.compress.specs.Worked.{between}
use Rattle.compress.proofs.Layouts.{length_rows}
use Rattle.cutting.specs.Contract.{Outcome, input_cause, result_of}
use Rattle.cutting.specs.Keeps.{PieceOf, PreparationsKept}
use Rattle.cutting.proofs.Preparations.{preparations_kept}
use Rattle.cutting.specs.parameter.Eighths.{parameter_of}
use Rattle.split_closed_edges.specs.add_edges.Add.{next, kept_edges, new_edges, added_to}
use Rattle.split_closed_edges.specs.Pass.{split_closed_edges}
use Rattle.split_closed_edges.specs.Contract.{outcome_of}
use Rattle.split_closed_edges.proofs.add_edges.Edges.{length_kept}
use Rattle.split_closed_edges.proofs.Laws.{pass_halved}
use Rattle.split_closed_edges.proofs.Reading.{outcome_none, outcome_passed}

-- ---- the map names the new edges, and each of them

-- how many are new, edge by edge
count_new : (at : Curve → Float) (b : Bool) (e : Edge) (es : List Edge) (n : ℕ) → b ≡ closed e → length (new_edges at n (e ∷ es)) ≡ next b (length (new_edges at (next b n) es))
unfolding new_edges
count_new at true e es n q = rw (← q) (omega arith)
count_new at false e es n q = rw (← q)

pub named_below : (at : Curve → Float) (es : List Edge) (n m k j : ℕ) → get_or (added_to m es) k None ≡ Some j → j < m + length (new_edges at n es)
unfolding added_to
named_below at [] n m k j p = cc
named_below at (e ∷ es) n m zero j p = by (closed e) refl p
  where
    by : (b : Bool) → b ≡ closed e → get_or (added_to m (e ∷ es)) 0 None ≡ Some j → j < m + length (new_edges at n (e ∷ es))
    by true q z =
        let s : ◌≡◌ {A = Option ℕ} (Some m) (Some j) = rw (← q) at z in
        let is : m ≡ j = cc in
        omega (arith, count_new at true e es n q)
    by false q z = let s : ◌≡◌ {A = Option ℕ} None (Some j) = rw (← q) at z in cc
named_below at (e ∷ es) n m (suc k) j p = by (closed e) refl (named_below at es (next (closed e) n) (next (closed e) m) k j p)
  where
    by : (b : Bool) → b ≡ closed e → j < next b m + length (new_edges at (next b n) es) → j < m + length (new_edges at n (e ∷ es))
    by true q h = omega (arith, count_new at true e es n q)
    by false q h = omega (arith, count_new at false e es n q)

-- the piece of the first edge, where it is closed, and the pieces of those behind it
found_here : (e : Edge) (es : List Edge) (m j : ℕ) → true ≡ closed e → m ≡ j → (i : ℕ) × PieceOf (added_to m (e ∷ es)) (length (e ∷ es)) i j
unfolding added_to
found_here e es m j q is =
    let p : ◌≡◌ {A = Option ℕ} (Some m) (Some j) = ap Some is in
    (0, record { below = omega arith; named = rw (← q) p })

found_there : (b : Bool) (e : Edge) (es : List Edge) (m j : ℕ) → b ≡ closed e → (i : ℕ) × PieceOf (added_to (next b m) es) (length es) i j
    → (i : ℕ) × PieceOf (added_to m (e ∷ es)) (length (e ∷ es)) i j
unfolding added_to
found_there b e es m j q (i, f) = (suc i, record { below = omega (arith, f.below); named = rw (← q) f.named })

pub mother_found : (at : Curve → Float) (es : List Edge) (n m j : ℕ) → m ≤ j → j < m + length (new_edges at n es) → (i : ℕ) × PieceOf (added_to m es) (length es) i j
unfolding new_edges
mother_found at [] n m j lo hi = absurd (omega arith)
mother_found at (e ∷ es) n m j lo hi = by (closed e) (eqb m j) refl refl (λ n' m' a b. mother_found at es n' m' j a b)
  where
    by : (b c : Bool) → b ≡ closed e → eqb m j ≡ c
        → ((n' m' : ℕ) → m' ≤ j → j < m' + length (new_edges at n' es) → (i : ℕ) × PieceOf (added_to m' es) (length es) i j)
        → (i : ℕ) × PieceOf (added_to m (e ∷ es)) (length (e ∷ es)) i j
    by true true q r further = found_here e es m j q (eqb-true m j r)
    by true false q r further =
        let ne = eqb-false m j r in
        found_there true e es m j q (further (n + 1) (m + 1) (omega (arith, ne)) (omega (arith, count_new at true e es n q)))
    by false c q r further = found_there false e es m j q (further n m lo (omega (arith, count_new at false e es n q)))

-- ---- of the call
module _ (k : ℕ) (l : Lent) (c : Counts) where
  result_prepared : input_cause l ≡ 0 → (result_of l.slices (split_closed_edges (parameter_of k) (load l))).said ≡ result c
      → PreparationsKept (added_to l.edges (load l).edges) l.edges c.edges l.slices.en (result_of l.slices (split_closed_edges (parameter_of k) (load l))).slices.en
  unfolding load split_closed_edges
  result_prepared z p =
      let es = (load l).edges in
      let n = length (load l).vertices in
      let le : length es ≡ l.edges = length_rows (edge_at l.slices.en l.slices.ef) 0 l.edges in
      let all : length (kept_edges (parameter_of k) n es ++ new_edges (parameter_of k) n es) ≡ l.edges + length (new_edges (parameter_of k) n es)
      = length-append (kept_edges (parameter_of k) n es) (new_edges (parameter_of k) n es) ∙ rw (length_kept (parameter_of k) es n, le) in
      preparations_kept (between 0 0) l (split_closed_edges (parameter_of k) (load l)) c (added_to l.edges es) z (rw le at (pass_halved (parameter_of k) (between 0 0) (load l))) (omega (arith, all))
      (λ i j q. omega (arith, all, named_below (parameter_of k) es n l.edges i j q.named))
      (λ j lo hi. rw le at (mother_found (parameter_of k) es n l.edges j lo (omega (arith, all)))) p

  -- the pass leaves, where it tells a result, every edge with its preparation, and every piece with its mother's
  pub pass_prepared : (o : Outcome) → o ≡ outcome_of k l → o.said ≡ result c
      → PreparationsKept (added_to l.edges (load l).edges) l.edges c.edges l.slices.en o.slices.en
  pass_prepared o is p =
      let z = outcome_none k l c (rw is at p) in
      let q = outcome_passed k l z in
      rw (is, q) (result_prepared z.0 (rw (is, q) at p))
