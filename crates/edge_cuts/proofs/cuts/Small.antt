-- The causes of cuts are 0 or numbers of the table, and none is above 15.
-- Assumes nothing.
use mathlib.Core.List.{List}
use Prim.Native.Nat.{ℕ, ◌*◌, ◌≤◌}
use lib.Dec.{ltb}
use lib.ListN.{length}
use lib.Ieee.{Float}
use Rattle.compress.specs.declared.Refusal.TheVariants.{Malformed}
use Rattle.compress.specs.Refusals.{IsCause}
use Rattle.checks.specs.Causes.{parameter_cause}
use Rattle.checks.proofs.Numbers.{of_table, pick_is, lower_told, lowest_told, parameter_told, point_told}
use Rattle.checks.proofs.Small.{pick_small, lower_small, lowest_small, parameter_small, point_small}
use Rattle.edge_cuts.specs.declared.cuts.Cut.{Cut}
use Rattle.edge_cuts.specs.cuts.Cuts.{floats_per_cut, cut_at, cut_cause, cuts_cause}

pub cut_small : (t0 t1 : Float) (c : Cut) → IsCause (cut_cause t0 t1 c) × (cut_cause t0 t1 c ≤ 15)
unfolding cut_cause
cut_small t0 t1 c =
    let p = c.point in (
      lower_told (parameter_cause t0 t1 c.t) _ (parameter_told t0 t1 c.t) (point_told p.x p.y p.z),
      lower_small (parameter_cause t0 t1 c.t) _ (parameter_small t0 t1 c.t) (point_small p.x p.y p.z),
    )

pub cuts_small : (t0 t1 : Float) (cs : List Float) (n : ℕ) → IsCause (cuts_cause t0 t1 cs n) × (cuts_cause t0 t1 cs n ≤ 15)
unfolding cuts_cause
cuts_small t0 t1 cs n =
    let f : ℕ → ℕ = λ i. cut_cause t0 t1 (cut_at cs i) in (
      pick_is (ltb (length cs) (n * floats_per_cut)) (of_table Malformed) (lowest_told f n (λ i. (cut_small t0 t1 (cut_at cs i)).0)),
      pick_small (ltb (length cs) (n * floats_per_cut)) _ (lowest_small f n (λ i. (cut_small t0 t1 (cut_at cs i)).1)),
    )
