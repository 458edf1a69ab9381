-- The call `cut_edge_by_intersections`: on each of its ways out the answer and every slice are those of `cut_outcome`. Assumes nothing.
use mathlib.Core.Path.{◌≡◌, refl, ap}
use mathlib.Core.List.{List, [], ◌∷◌}
use Prim.Native.Nat.{ℕ, zero, suc, ◌-◌, ◌≤◌, ◌<◌}
use native.Mathlib.Omega.{arith}
use lib.Ieee.{Float}
use lib.ListN.{length}
use Rattle.compress.specs.declared.Refusal.{Refusal}
use Rattle.compress.specs.Layout.{rows}
use Rattle.compress.specs.Refusals.{refusal_number}
use Rattle.compress.specs.Rows.{edge_at}
use Rattle.compress.specs.Said.{refused}
use Rattle.compress.specs.Shell.{Lent, load}
use Rattle.compress.specs.Worked.{between}
use Rattle.compress.proofs.Layouts.{length_rows, rows_none, rows_first}
use Rattle.compress.proofs.Refused.{cause_met}
use Rattle.cutting.specs.Contract.{turned_away, result_of}
use Rattle.edge_cuts.specs.declared.cuts.Cut.{Cut}
use Rattle.edge_cuts.specs.cuts.Cuts.{cut_at}
use Rattle.edge_cuts.specs.Contract.{edge_cuts_cause, points_outcome}
use Rattle.edge_cuts.proofs.None.{none_outcome}
use Rattle.edge_cuts.proofs.Outcome.{call_checked}
use Rattle.one_cut.specs.Contract.{once_outcome, cut_by, cut_outcome}
use Rattle.one_cut.proofs.Once.{once_is}

module _ (l : Lent) (i : ℕ) (cs : List Float) (n : ℕ) where
  -- a cause: its refusal, and nothing written
  pub call_cause : (r : Refusal) → refusal_number r ≡ edge_cuts_cause l i cs n → record { said = refused (refusal_number r); slices = l.slices } ≡ cut_outcome l i cs n
  unfolding cut_outcome
  call_cause r q = cause_met r _ (turned_away _) _ q

  module _ (z : edge_cuts_cause l i cs n ≡ 0) where
    by_cuts : cut_outcome l i cs n ≡ cut_by (rows (cut_at cs) 0 n) l i
    unfolding cut_outcome
    by_cuts = rw z

    -- two or more
    pub call_several : 1 < n → record { said = refused 14; slices = l.slices } ≡ cut_outcome l i cs n
    call_several h =
        let m = n - 2 in
        let p : rows (cut_at cs) 0 n ≡ cut_at cs 0 ∷ rows (cut_at cs) 1 (suc m) = rows_first (cut_at cs) 0 n (suc m) (omega arith) in
        let r : rows (cut_at cs) 1 (suc m) ≡ cut_at cs 1 ∷ rows (cut_at cs) 2 m = rows_first (cut_at cs) 1 (suc m) m refl in
        rw (by_cuts, p, r)

    once_same : (c : Cut) → points_outcome l i (c ∷ []) ≡ once_outcome l i c
    unfolding points_outcome once_outcome load
    once_same c =
        let lt : i < length (load l).edges = rw (length_rows (edge_at l.slices.en l.slices.ef) 0 l.edges) (call_checked l i cs n z).1 in
        ap (result_of l.slices) (once_is (load l) i (edge_at l.slices.en l.slices.ef i) c lt)

    -- none or one
    pub call_done : n ≤ 1 → points_outcome l i (rows (cut_at cs) 0 n) ≡ cut_outcome l i cs n
    call_done h = by n refl
      where
        by : (k : ℕ) → n ≡ k → points_outcome l i (rows (cut_at cs) 0 n) ≡ cut_outcome l i cs n
        by zero p =
            let k = call_checked l i cs n z in
            rw (by_cuts, p, rows_none (cut_at cs) 0) (none_outcome l k.0 (between 0 0) i k.1)
        by (suc zero) p = rw (by_cuts, p, rows_first (cut_at cs) 0 1 0 refl, rows_none (cut_at cs) 1) (once_same (cut_at cs 0))
        by (suc (suc k)) p = absurd (omega arith)
