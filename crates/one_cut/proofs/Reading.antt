-- After one cut the slices with the counts told hold the shell that the cut makes; after no cut, the shell that was lent.
-- Assumes nothing.
use mathlib.Core.Path.{◌≡◌, ◌∙◌}
use mathlib.Core.List.{List, [], ◌∷◌}
use Prim.Native.Nat.{ℕ, ◌≤◌, ◌<◌}
use native.Mathlib.Omega.{arith}
use lib.ListN.{length}
use lib.Ieee.{Float}
use Rattle.compress.specs.declared.Counts.{Counts}
use Rattle.compress.specs.Layout.{rows}
use Rattle.compress.specs.Rows.{edge_at, vertex_at}
use Rattle.compress.specs.Said.{result}
use Rattle.compress.specs.Shell.{Shell, Lent, load, counts_of}
use Rattle.compress.proofs.Layouts.{length_rows, rows_none, rows_first}
use Rattle.compress.proofs.Refused.{refused_never, result_told}
use Rattle.cutting.specs.Contract.{Outcome, next_lent, input_cause}
use Rattle.cutting.proofs.Reading.{result_read, cause_none, cause_passed, wires_kept}
use Rattle.edge_cuts.specs.declared.cuts.Cut.{Cut}
use Rattle.edge_cuts.specs.cuts.Cuts.{cut_at}
use Rattle.one_cut.specs.Cut.{cut_once}
use Rattle.edge_cuts.specs.Contract.{edge_cuts_cause}
use Rattle.one_cut.specs.Contract.{once_outcome, cut_by, cut_outcome}
use Rattle.edge_cuts.proofs.Outcome.{call_checked}

-- the shell after no cut, and after one
abbrev cut_shell : List Cut → Lent → ℕ → Shell
cut_shell [] l i = load l
cut_shell (k ∷ ks) l i = cut_once (load l) i (edge_at l.slices.en l.slices.ef i) k

module _ (l : Lent) (i : ℕ) (c : Counts) where
  -- nothing is written, and the counts told are those lent
  none_read : counts_of (load l) ≡ c → load (next_lent (record { said = result c; slices = l.slices }) c l.wires) ≡ load l
  unfolding load counts_of
  none_read p = rw (← p, length_rows (vertex_at l.slices.vn l.slices.vf) 0 l.vertices, length_rows (edge_at l.slices.en l.slices.ef) 0 l.edges)

  once_read : input_cause l ≡ 0 → (k : Cut) → (once_outcome l i k).said ≡ result c → load (next_lent (once_outcome l i k) c l.wires) ≡ cut_shell (k ∷ []) l i
  unfolding once_outcome cut_once
  once_read z k p = result_read l.slices (cut_shell (k ∷ []) l i) c l.wires (wires_kept l z _) p

  by_read : input_cause l ≡ 0 → (ks : List Cut) → (cut_by ks l i).said ≡ result c
      → (length ks ≤ 1) × (load (next_lent (cut_by ks l i) c l.wires) ≡ cut_shell ks l i)
  by_read z [] p = (omega arith, none_read (result_told (counts_of (load l)) c p))
  by_read z (k ∷ []) p = (omega arith, once_read z k p)
  by_read z (k ∷ j ∷ ks) p = absurd (refused_never 14 p)

  any_read : (cs : List Float) (n : ℕ) → (cut_outcome l i cs n).said ≡ result c
      → (length (rows (cut_at cs) 0 n) ≤ 1) × (load (next_lent (cut_outcome l i cs n) c l.wires) ≡ cut_shell (rows (cut_at cs) 0 n) l i) × (i < l.edges)
  unfolding cut_outcome
  any_read cs n p =
      let ks = rows (cut_at cs) 0 n in
      let z = cause_none (edge_cuts_cause l i cs n) l.slices (cut_by ks l i) c p in
      let q = cause_passed (edge_cuts_cause l i cs n) l.slices (cut_by ks l i) z in
      let known = call_checked l i cs n z in
      let r = by_read known.0 ks (rw q at p) in
      (r.0, rw q r.1, known.1)

  -- a call that leaves o, as its contract says, and tells a result
  module _ (cs : List Float) (n : ℕ) (o : Outcome) (is : o ≡ cut_outcome l i cs n) (p : o.said ≡ result c) where
    -- two or more cuts tell no result, and the edge is one of those lent
    pub cut_few : (n ≤ 1) × (i < l.edges)
    cut_few =
        let r = any_read cs n (rw is at p) in
        (omega (arith, r.0, length_rows (cut_at cs) 0 n), r.2)

    -- "No cut: nothing changes."
    pub cut_none : n ≡ 0 → load (next_lent o c l.wires) ≡ load l
    cut_none e =
        let q : rows (cut_at cs) 0 n ≡ [] = rw e (rows_none (cut_at cs) 0) in
        rw is ((any_read cs n (rw is at p)).1 ∙ rw q)

    -- one cut, by the cut that was lent
    pub cut_read : n ≡ 1 → load (next_lent o c l.wires) ≡ cut_once (load l) i (edge_at l.slices.en l.slices.ef i) (cut_at cs 0)
    cut_read e =
        let q = rows_first (cut_at cs) 0 n 0 e in
        rw is ((any_read cs n (rw is at p)).1 ∙ rw q)
