-- After the closed-edge pass the slices with the counts told hold the shell that the pass makes.
-- Assumes nothing.
use mathlib.Core.Path.{◌≡◌, ◌∙◌}
use Rattle.compress.specs.declared.Counts.{Counts}
use Rattle.compress.specs.Said.{result}
use Rattle.compress.specs.Shell.{Lent, load}
use Prim.Native.Nat.{ℕ}
use Rattle.cutting.specs.parameter.Eighths.{eighths_cause, parameter_of}
use Rattle.cutting.specs.Contract.{Outcome, next_lent, input_cause, result_of}
use Rattle.cutting.proofs.Reading.{result_read, cause_none, cause_passed, wires_kept}
use Rattle.split_closed_edges.specs.Pass.{split_closed_edges}
use Rattle.split_closed_edges.specs.Contract.{checked_outcome, outcome_of}

-- a pass that tells a result met no cause ..
pub outcome_none : (k : ℕ) (l : Lent) (c : Counts) → (outcome_of k l).said ≡ result c → (input_cause l ≡ 0) × (eighths_cause k ≡ 0)
unfolding outcome_of
outcome_none k l c p =
    let z = cause_none (input_cause l) l.slices (checked_outcome k l) c p in
    (z, cause_none (eighths_cause k) l.slices _ c (rw (cause_passed (input_cause l) l.slices (checked_outcome k l) z) at p))

-- .. and leaves the result
pub outcome_passed : (k : ℕ) (l : Lent) → (input_cause l ≡ 0) × (eighths_cause k ≡ 0) → outcome_of k l ≡ result_of l.slices (split_closed_edges (parameter_of k) (load l))
unfolding outcome_of
outcome_passed k l z = cause_passed (input_cause l) l.slices (checked_outcome k l) z.0 ∙ cause_passed (eighths_cause k) l.slices _ z.1

outcome_read : (k : ℕ) (l : Lent) (c : Counts) → (outcome_of k l).said ≡ result c → load (next_lent (outcome_of k l) c l.wires) ≡ split_closed_edges (parameter_of k) (load l)
unfolding outcome_of split_closed_edges
outcome_read k l c p =
    let o = result_of l.slices (split_closed_edges (parameter_of k) (load l)) in
    let z = outcome_none k l c p in
    let e = outcome_passed k l z in
    rw e (result_read l.slices (split_closed_edges (parameter_of k) (load l)) c l.wires (wires_kept l z.0 _) (rw e at p))

-- a call that leaves o, as its contract says, and tells a result
pub pass_read : (k : ℕ) (l : Lent) (c : Counts) (o : Outcome) → o ≡ outcome_of k l → o.said ≡ result c
    → load (next_lent o c l.wires) ≡ split_closed_edges (parameter_of k) (load l)
pass_read k l c o e p = rw e (outcome_read k l c (rw e at p))
