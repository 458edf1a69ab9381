-- What a call promises a host: what it is told of the answer, and the contents of every lent slice. Definitions only.
use Rattle.std.specs.Prelude.{◌≡◌, ◌≢◌, ◌⊎◌, List, ℕ, Float, ℤ, pos}
use Rattle.compress.specs.declared.Uv.{Uv}
use Rattle.compress.specs.Said.{Said, result, on_result}
use Rattle.compress.specs.declared.Counts.{Counts}
use Rattle.compress.specs.Shell.{Slices}
use Rattle.codes.specs.Told.{Told}
use Rattle.floats.specs.Exact.{Within}
use Rattle.cutting.specs.Contract.{Outcome}
use Rattle.cutting.specs.parameter.Eighths.{cut_parameter_said}
use Rattle.join.specs.joined.Outcome.{JoinOutcome}
use Rattle.split_closed_edges.specs.add_edges.Steps.{VerticesPass}
use Rattle.split.specs.declared.Boundaries.{Boundaries}
use Rattle.split.specs.Contract.{SplitOutcome}
use Rattle.split.specs.split_causes.Causes.{Buffers, LentSplit, split_cause}
use Rattle.split.specs.Demand.{fronts_at, backs_at, Balanced, AtMostTwo, Kept}
use Rattle.wire_kinds.specs.declared.BoundaryType.{BoundaryType}
use Rattle.wire_kinds.specs.Kinds.{boundary_number, SortOutcome, boundary_type_said}

-- ---- a call that changes a shell, for a host: the closed-edge pass, one cut, or cuts at several points
pub record HostShell (o : Outcome) (before after : Counts) (slices : Slices) (r : ℤ) : Type 0 where
  pub told : Told o.said before after r
  pub lent : slices ≡ o.slices

-- ---- the cut parameter, for a host: where the code is 0 it is within its range
pub record HostCutParameter (k : ℕ) (t0 t1 before after : Float) (r : ℤ) : Type 0 where
  pub told : Told (cut_parameter_said k t0 t1) before after r
  pub within : r ≡ pos 0 → Within t0 t1 after

-- "the parameter never leaves its range", of what the pass leaves to a host: where the code is 0, no vertex below the count that is told has a cause,
-- and so the parameter of each new one lies within the range of its curve.
pub record HostVerticesPass (after : Counts) (slices : Slices) (r : ℤ) : Type 0 where
  pub within : r ≡ pos 0 → VerticesPass slices.vn slices.vf after.vertices

-- ---- the join of open wires, for a host
pub record HostJoin (o : JoinOutcome) (before after : ℕ) (us ls : List ℕ) (r : ℤ) : Type 0 where
  pub told : Told o.said before after r
  pub uses : us ≡ o.us
  pub lengths : ls ≡ o.ls

-- ---- the split, for a host
pub record HostBoundaries (o : SplitOutcome) (before after : Boundaries) (buffers : Buffers) (r : ℤ) : Type 0 where
  pub told : Told o.said before after r
  pub lent : buffers ≡ o.buffers

-- Demand 3 for a host: of what it lent, and of what its places and slices hold before and after a call with the code r.
-- The first three are of a call that passes the checks made before the walk.
pub record HostKeeps (l : LentSplit) (before after : Boundaries) (buffers : Buffers) (r : ℤ) : Type 0 where
  -- if each vertex is the front of as many uses as it is the back of, and the front of at most two, the code is 0
  pub succeeds : split_cause l ≡ 0 → Balanced l → AtMostTwo l → r ≡ pos 0
  -- if at any vertex the two numbers are unequal, it is 11, a dead end, or 12, a crowd
  pub refuses : split_cause l ≡ 0 → (v : ℕ) → fronts_at l v ≢ backs_at l v → (r ≡ pos 11) ⊎ (r ≡ pos 12)
  -- and where they are equal at each, it is never 11, whatever the degree
  pub no_dead_end : split_cause l ≡ 0 → Balanced l → r ≢ pos 11
  -- where the code is 0 the answered wires keep the uses: each stands in them exactly as often as it was counted, and each wire is closed
  pub kept : r ≡ pos 0 → Kept l after buffers
  -- where it is another, the places and the slices hold what they held
  pub unchanged : r ≢ pos 0 → (after ≡ before) × (buffers ≡ l.buffers)

-- ---- the kind of a wire, for a host
abbrev pub numbered : Said BoundaryType → Said ℕ
numbered s = on_result s (λ t. result (boundary_number t))

abbrev pub host_kind : Uv → Uv → Float → Said ℕ
host_kind a b area = numbered (boundary_type_said a b area)

-- ---- the sorting of wires, for a host
pub record HostSort (o : SortOutcome) (before after : ℕ) (os cs : List ℕ) (r : ℤ) : Type 0 where
  pub told : Told o.said before after r
  pub opens : os ≡ o.opens
  pub closed : cs ≡ o.closed
