-- The call `cut_edge_at_points`: on each of its ways out the answer and every slice are those of `several_outcome`. Assumes nothing.
use mathlib.Core.Path.{◌≡◌, refl}
use mathlib.Core.List.{List}
use Prim.Native.Nat.{ℕ, ◌≤◌}
use borrow.Author.Tests.{ltb-false}
use lib.Dec.{ltb}
use lib.Ieee.{Float}
use Rattle.compress.specs.declared.Refusal.{Refusal}
use Rattle.compress.specs.Layout.{rows}
use Rattle.compress.specs.Refusals.{refusal_number}
use Rattle.compress.specs.Said.{refused}
use Rattle.compress.specs.Shell.{Lent}
use Rattle.compress.proofs.Refused.{cause_met}
use Rattle.checks.proofs.Accepted.{passed_by}
use Rattle.cutting.specs.Contract.{turned_away}
use Rattle.edge_cuts.specs.declared.cuts.Cut.{Cut}
use Rattle.edge_cuts.specs.cuts.Cuts.{cut_at}
use Rattle.edge_cuts.specs.Contract.{edge_cuts_cause, points_outcome}
use Rattle.several_cuts.specs.Contract.{order_cause, several_outcome}

pub order_few : (n : ℕ) (cs : List Cut) → order_cause n cs ≡ 0 → n ≤ 64
unfolding order_cause
order_few n cs z = ltb-false 64 n (passed_by 15 (ltb 64 n) _ z).0

module _ (l : Lent) (i : ℕ) (cs : List Float) (n : ℕ) where
  -- 1 to 5: the refusal, and nothing written
  pub call_cause : (r : Refusal) → refusal_number r ≡ edge_cuts_cause l i cs n
      → record { said = refused (refusal_number r); slices = l.slices } ≡ several_outcome l i cs n
  unfolding several_outcome
  call_cause r q = cause_met r _ (turned_away _) _ q

  module _ (z : edge_cuts_cause l i cs n ≡ 0) where
    -- 16 and 17
    pub call_order : (r : Refusal) → refusal_number r ≡ order_cause n (rows (cut_at cs) 0 n)
        → record { said = refused (refusal_number r); slices = l.slices } ≡ several_outcome l i cs n
    unfolding several_outcome
    call_order r q = rw z (cause_met r _ (turned_away _) _ q)

    pub call_done : order_cause n (rows (cut_at cs) 0 n) ≡ 0 → points_outcome l i (rows (cut_at cs) 0 n) ≡ several_outcome l i cs n
    unfolding several_outcome
    call_done o = rw (z, o) refl
