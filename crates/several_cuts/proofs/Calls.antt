-- The call `cut_edge_at_points`: where it tells a result, the slices hold the shell with its edge cut into a chain; with no cut and with one it answers as
-- `cut_edge_by_intersections`. Assumes nothing.
use mathlib.Core.Path.{◌≡◌, refl, ap, sym, subst, ◌∙◌}
use mathlib.Core.List.{List}
use Prim.Native.Nat.{ℕ, zero, suc, ◌≤◌, ◌<◌}
use native.Mathlib.Omega.{arith}
use lib.Ieee.{Float}
use lib.ListN.{length}
use Rattle.std.proofs.lemmas.List.{length-map}
use Rattle.compress.specs.declared.Counts.{Counts}
use Rattle.compress.specs.declared.Edge.{Edge}
use Rattle.compress.specs.Layout.{rows}
use Rattle.compress.specs.Records.{preparation_number}
use Rattle.compress.specs.Rows.{preparation_at, edge_at}
use Rattle.compress.specs.Said.{result}
use Rattle.compress.specs.Shell.{Shell, Lent, load}
use Rattle.compress.proofs.Layouts.{length_rows}
use Rattle.compress.proofs.Loading.{edge_loaded}
use Rattle.compress.proofs.Wires.{wire_count}
use Rattle.rows.specs.wires.Connected.{replaced}
use Rattle.cutting.specs.Contract.{Outcome, next_lent, input_cause, result_of}
use Rattle.cutting.specs.Keeps.{edge_in}
use Rattle.cutting.proofs.Keeping.{lent_known}
use Rattle.cutting.proofs.Outcome.{accepted}
use Rattle.cutting.proofs.Preparations.{left_prepared, edges_told, lent_prepared}
use Rattle.cutting.proofs.Reading.{result_read, cause_none, cause_passed}
use Rattle.pieces.specs.Pieces.{uses_for, mended, parts_of}
use Rattle.edge_cuts.specs.declared.cuts.Cut.{Cut}
use Rattle.edge_cuts.specs.cuts.Cuts.{cut_at, rising}
use Rattle.edge_cuts.specs.Cut.{cut_at_points}
use Rattle.edge_cuts.specs.Contract.{edge_cuts_cause, points_outcome}
use Rattle.edge_cuts.proofs.Outcome.{call_checked}
use Rattle.one_cut.specs.Contract.{cut_outcome}
use Rattle.one_cut.proofs.Outcome.{call_done as one_done}
use Rattle.several_cuts.specs.Contract.{order_cause, ordered_outcome, several_outcome}
use Rattle.several_cuts.specs.Mothers.{mother_of, CutInto}
use Rattle.several_cuts.proofs.Laws.{mother_below, cut_into}
use Rattle.several_cuts.proofs.Outcome.{call_done as several_done}

-- ---- a call that leaves o, as its contract says, and tells a result
module _ (l : Lent) (i : ℕ) (cs : List Float) (n : ℕ) (c : Counts) (o : Outcome) (is : o ≡ several_outcome l i cs n) (p : o.said ≡ result c) where
  abbrev cuts : List Cut
  cuts = rows (cut_at cs) 0 n

  no_cause : edge_cuts_cause l i cs n ≡ 0
  unfolding several_outcome
  no_cause = cause_none (edge_cuts_cause l i cs n) l.slices (ordered_outcome l i n cuts) c (rw is at p)

  by_order : o ≡ ordered_outcome l i n cuts
  unfolding several_outcome
  by_order = is ∙ cause_passed (edge_cuts_cause l i cs n) l.slices (ordered_outcome l i n cuts) no_cause

  ordered : order_cause n cuts ≡ 0
  ordered = cause_none (order_cause n cuts) l.slices (points_outcome l i cuts) c (rw by_order at p)

  by_points : o ≡ points_outcome l i cuts
  by_points = by_order ∙ cause_passed (order_cause n cuts) l.slices (points_outcome l i cuts) ordered

  checked : input_cause l ≡ 0
  checked = (call_checked l i cs n no_cause).0

  pub lies : i < l.edges
  lies = (call_checked l i cs n no_cause).1

  count : length (load l).edges ≡ l.edges
  unfolding load
  count = length_rows (edge_at l.slices.en l.slices.ef) 0 l.edges

  module _ (d : Edge) where
    abbrev after : Shell
    after = cut_at_points (load l) i (edge_in d (load l) i) cuts

    wires_are : length after.wires ≡ l.wires
    unfolding cut_at_points load mended
    wires_are =
        let A = accepted l.slices.vn l.slices.vf l.slices.en l.slices.ef l.slices.us l.slices.ls l.vertices l.edges l.wires checked in
        length-map (load l).wires (replaced (uses_for (parts_of i (length (load l).edges) (length cuts))))
        ∙ wire_count l.slices.us l.slices.ls l.wires A.wires.lengths

    by_result : o ≡ result_of l.slices after
    unfolding points_outcome
    by_result = rw (edge_loaded l d i lies) at by_points

    pub several_read : load (next_lent o c l.wires) ≡ after
    several_read = rw by_result (result_read l.slices after c l.wires wires_are (rw by_result at p))

    cut_after : CutInto d (load l) after i n
    cut_after =
        let known = lent_known l.slices.vn l.slices.vf l.slices.en l.slices.ef l.slices.us l.slices.ls l.vertices l.edges l.wires checked in
        subst (λ (k : ℕ). CutInto d (load l) after i k) (length_rows (cut_at cs) 0 n) (cut_into d (load l) i cuts (rw count lies) known)

    -- the laws of several cuts, of what the call left
    pub several_keep : CutInto d (load l) (load (next_lent o c l.wires)) i n
    several_keep = rw several_read cut_after

    -- A.5, of the slices: every edge lent keeps its preparation, and the others have that of edge i
    pub several_prepared : (q : ℕ) → q < c.edges → preparation_at o.slices.en q ≡ preparation_at l.slices.en (mother_of l.edges i q)
    several_prepared q lt =
        let said = rw by_result at p in
        let below : q < length after.edges = omega (arith, edges_told l.slices after c said) in
        let mother = rw count at (cut_after.preparations q below) in
        rw by_result (left_prepared d l.slices after c q below said)
        ∙ ap preparation_number mother
        ∙ lent_prepared d l checked (mother_of l.edges i q) (mother_below l.edges i q lies)

-- ---- with no cut and with one
module _ (l : Lent) (i : ℕ) (cs : List Float) where
  same_refused : (n : ℕ) (k : ℕ) → suc k ≡ edge_cuts_cause l i cs n → several_outcome l i cs n ≡ cut_outcome l i cs n
  unfolding several_outcome cut_outcome
  same_refused n k e = rw (← e) refl

  same_by : (n : ℕ) → n ≤ 1 → (k : ℕ) → k ≡ edge_cuts_cause l i cs n → order_cause n (rows (cut_at cs) 0 n) ≡ 0
      → several_outcome l i cs n ≡ cut_outcome l i cs n
  same_by n h zero e z = sym (several_done l i cs n (sym e) z) ∙ one_done l i cs n (sym e) h
  same_by n h (suc k) e z = same_refused n k e

  pub several_none : several_outcome l i cs 0 ≡ cut_outcome l i cs 0
  unfolding order_cause rising rows
  several_none = same_by 0 (omega arith) (edge_cuts_cause l i cs 0) refl refl

  pub several_one : several_outcome l i cs 1 ≡ cut_outcome l i cs 1
  unfolding order_cause rising rows
  several_one = same_by 1 (omega arith) (edge_cuts_cause l i cs 1) refl refl
