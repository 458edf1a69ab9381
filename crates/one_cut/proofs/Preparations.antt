-- One cut keeps every preparation, and both pieces have their mother's; no cut changes nothing. Assumes nothing.
use mathlib.Core.Path.{◌≡◌, refl, ◌∙◌}
use mathlib.Core.List.{List, [], ◌∷◌, ◌++◌}
use Prim.Native.Nat.{ℕ, ◌+◌, ◌<◌}
use native.Mathlib.Omega.{arith}
use lib.Dec.{eqb}
use lib.Ieee.{Float}
use lib.ListN.{length, get_or, set, length-append, length-set}
use Rattle.compress.specs.declared.Counts.{Counts}
use Rattle.compress.specs.Layout.{rows}
use Rattle.compress.specs.Rows.{edge_at}
use Rattle.compress.specs.Said.{result}
use Rattle.compress.specs.Shell.{Lent, load}
use Rattle.compress.specs.Worked.{between}
use Rattle.compress.proofs.Layouts.{length_rows, rows_none, rows_first}
use Rattle.compress.proofs.Loading.{edge_loaded}
use Rattle.cutting.specs.cut_edge.Cut.{halves_of}
use Rattle.cutting.specs.Contract.{Outcome, input_cause}
use Rattle.cutting.specs.Keeps.{PreparationsKept}
use Rattle.cutting.proofs.Preparations.{preparations_kept}
use Rattle.cutting.proofs.Reading.{cause_none, cause_passed}
use Rattle.edge_cuts.specs.declared.cuts.Cut.{Cut}
use Rattle.edge_cuts.specs.cuts.Cuts.{cut_at}
use Rattle.one_cut.specs.Cut.{added_at, cut_once}
use Rattle.edge_cuts.specs.Contract.{edge_cuts_cause}
use Rattle.one_cut.specs.Contract.{once_outcome, cut_by, cut_outcome}
use Rattle.one_cut.proofs.Laws.{added_here, named_here, halved}
use Rattle.edge_cuts.proofs.Outcome.{call_checked}

module _ (l : Lent) (i : ℕ) (c : Counts) where
  once_prepared : input_cause l ≡ 0 → i < l.edges → (k : Cut) → (once_outcome l i k).said ≡ result c
      → PreparationsKept (added_at l.edges i l.edges) l.edges c.edges l.slices.en (once_outcome l i k).slices.en
  unfolding once_outcome load cut_once
  once_prepared z lt k p =
      let s = load l in
      let d = between 0 0 in
      let e = edge_at l.slices.en l.slices.ef i in
      let h = halves_of e k.t (length s.vertices) in
      let n : length s.edges ≡ l.edges = length_rows (edge_at l.slices.en l.slices.ef) 0 l.edges in
      let below : i < length s.edges = omega arith in
      let is : e ≡ get_or s.edges i d = edge_loaded l d i lt in
      let all : length (set s.edges i h.old ++ (h.new ∷ [])) ≡ l.edges + 1
      = length-append (set s.edges i h.old) (h.new ∷ []) ∙ rw (length-set s.edges i h.old, n) in
      preparations_kept d l (cut_once s i e k) c (added_at l.edges i l.edges) z (rw n at (halved d s i e k below is)) (omega (arith, all))
      (λ a j q.
      let named = rw n at (named_here d s i e k below is a j (eqb a i) refl) in
      omega (arith, all, (named q.named).1))
      (λ j lo hi.
      let last : j ≡ l.edges = omega (arith, all) in
      (i, record { below = lt; named = rw last (added_here l.edges i l.edges lt) })) p

  -- a call that leaves o, as its contract says, and tells a result
  module _ (cs : List Float) (n : ℕ) (o : Outcome) (is : o ≡ cut_outcome l i cs n) (p : o.said ≡ result c) where
    no_cause : edge_cuts_cause l i cs n ≡ 0
    unfolding cut_outcome
    no_cause = cause_none (edge_cuts_cause l i cs n) l.slices (cut_by (rows (cut_at cs) 0 n) l i) c (rw is at p)

    by_cuts : o ≡ cut_by (rows (cut_at cs) 0 n) l i
    unfolding cut_outcome
    by_cuts = is ∙ cause_passed (edge_cuts_cause l i cs n) l.slices (cut_by (rows (cut_at cs) 0 n) l i) no_cause

    -- "No cut: nothing changes."
    pub none_kept : n ≡ 0 → o.slices ≡ l.slices
    none_kept e =
        let q : rows (cut_at cs) 0 n ≡ [] = rw e (rows_none (cut_at cs) 0) in
        rw (by_cuts, q)

    -- one cut leaves every edge with its preparation, and the piece cut off with its mother's
    pub cut_prepared : n ≡ 1 → PreparationsKept (added_at l.edges i l.edges) l.edges c.edges l.slices.en o.slices.en
    cut_prepared e =
        let q : rows (cut_at cs) 0 n ≡ cut_at cs 0 ∷ [] = rows_first (cut_at cs) 0 n 0 e ∙ rw (rows_none (cut_at cs) 1) in
        let known = call_checked l i cs n no_cause in
        rw (by_cuts, q) (once_prepared known.0 known.1 (cut_at cs 0) (rw (by_cuts, q) at p))
