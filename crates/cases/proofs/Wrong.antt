-- What demand 3 by itself rules out of K10, whatever else is said of the outcome: "a split that refuses each call or yields no wires", and "a walk that
-- builds its first wire and repeats it". Assumes nothing.
use mathlib.Core.Path.{◌≡◌, refl, sym, subst, ◌∙◌}
use mathlib.Core.Logic.{◌≢◌}
use mathlib.Core.List.{List, [], ◌∷◌, ◌++◌}
use Prim.Native.Nat.{ℕ, zero, suc}
use native.Mathlib.Omega.{arith}
use lib.Ieee.{neg, lt, le, of_bits}
use lib.Dec.{eqb}
use lib.ListN.{take}
use Rattle.compress.specs.Layout.{rows}
use Rattle.compress.specs.Records.{front_of, back_of, front_at, back_at}
use Rattle.compress.specs.Rows.{curve_of, edge_of}
use Rattle.compress.specs.Said.{result, refused}
use Rattle.compress.specs.Shell.{edges_fit}
use Rattle.compress.specs.Wires.{total, wires_of, uses_of}
use Rattle.compress.proofs.Refused.{refused_never}
use Rattle.checks.specs.Causes.{lower_of, lowest_of, float_cause, range_cause, uv_cause, curve_cause, edge_cause, edge_row_cause, edges_cause, uses_cause}
use Rattle.walk.specs.lists.Members.{count}
use Rattle.walk.specs.marks.Marks.{new_uses}
use Rattle.walk.proofs.lists.Counts.{count_append}
use Rattle.split.specs.declared.Boundaries.{Boundaries}
use Rattle.split.specs.seams.Seams.{seam_of, seams_of, stands, repeats_after}
use Rattle.split.specs.seams.Stops.{stop_cause, stops_cause}
use Rattle.split.specs.split_causes.Causes.{split_wires_cause, split_input_cause, room_cause, split_cause}
use Rattle.split.specs.Contract.{SplitOutcome, given_in, split_outcome}
use Rattle.split.specs.Demand.{KeepsUses, Balanced, AtMostTwo, counted}
use Rattle.split.proofs.Demand.{split_keeps}
use Rattle.cases.specs.Cases.{k10_lent}

-- K10 passes the checks made before the walk
pub k10_passes : split_cause k10_lent ≡ 0
unfolding of_bits neg lt le total rows curve_of edge_of edges_fit lower_of lowest_of float_cause range_cause uv_cause curve_cause edge_cause edge_row_cause edges_cause uses_cause stands repeats_after split_wires_cause stop_cause stops_cause split_input_cause room_cause split_cause
k10_passes = refl

-- each of its vertices is balanced, and the front of two uses
pub k10_balanced : Balanced k10_lent
unfolding rows curve_of edge_of total front_of back_of front_at back_at seam_of seams_of new_uses given_in
k10_balanced zero h = refl
k10_balanced (suc zero) h = refl
k10_balanced (suc (suc zero)) h = refl
k10_balanced (suc (suc (suc zero))) h = refl
k10_balanced (suc (suc (suc (suc v)))) h = absurd (omega arith)

pub k10_few : AtMostTwo k10_lent
unfolding rows curve_of edge_of total front_of back_of front_at back_at seam_of seams_of new_uses given_in
k10_few zero h = omega arith
k10_few (suc zero) h = omega arith
k10_few (suc (suc zero)) h = omega arith
k10_few (suc (suc (suc zero))) h = omega arith
k10_few (suc (suc (suc (suc v)))) h = absurd (omega arith)

-- the use 0+ stands once in the wire to be rebuilt, and its edge is not new
pub k10_once : counted k10_lent 0 ≡ 1
unfolding total
k10_once = refl

-- the call itself keeps the uses
pub k10_keeps : KeepsUses k10_lent (split_outcome k10_lent)
k10_keeps = split_keeps k10_lent

-- ---- for each outcome that keeps the uses of K10

module _ (o : SplitOutcome) (keeps : KeepsUses k10_lent o) where
  -- it is no refusal
  pub not_refused : (n : ℕ) → o.said ≢ refused n
  not_refused n p =
      let c = keeps.succeeds k10_passes k10_balanced k10_few in
      refused_never n (sym p ∙ c.1)

  -- it has wires
  pub not_empty : (c : Boundaries) → o.said ≡ result c → c.wires ≢ 0
  unfolding wires_of uses_of
  not_empty c p e =
      omega (arith, subst (λ n. count (eqb 0) (uses_of (wires_of o.buffers.us (take n o.buffers.ls))) ≡ 1) e ((keeps.kept c p).each 0 ∙ k10_once))

  -- it has not one wire twice and no other, whichever wire it builds first
  pub not_repeated : (c : Boundaries) → o.said ≡ result c → (w : List ℕ) → wires_of o.buffers.us (take c.wires o.buffers.ls) ≢ w ∷ w ∷ []
  unfolding uses_of
  not_repeated c p w e =
      let twice = subst (λ ws. count (eqb 0) (uses_of ws) ≡ 1) e ((keeps.kept c p).each 0 ∙ k10_once) in
      omega (arith, twice, count_append (eqb 0) w (w ++ []), count_append (eqb 0) w [])
