-- The search over all wires: the wires that are left give the same answer, until one of them does.
-- Assumes nothing.
use mathlib.Core.Path.{◌≡◌, refl}
use mathlib.Core.List.{List, [], ◌∷◌, ◌++◌}
use Prim.Native.Nat.{ℕ, ◌+◌, ◌/◌, ◌%◌, ◌≤◌, ◌<◌}
use native.Mathlib.Nat.{mod-lt}
use native.Mathlib.Omega.{arith}
use lib.ListN.{length, get_or, take}
use lib.Ieee.{Float}
use lib.Seq.{take_at}
use Rattle.compress.specs.declared.Edge.{Edge}
use Rattle.compress.specs.declared.Vertex.{Vertex}
use Rattle.compress.specs.Said.{Said, result, none, refused}
use Rattle.compress.specs.Wires.{wires_of, UsesBelow}
use Rattle.rows.specs.declared.lent.Wires.{Wires}
use Rattle.rows.specs.declared.lent.EachWire.{EachWire}
use Rattle.rows.specs.Held.{wires_in}
use Rattle.rows.proofs.Each.{AllOf, first_holds, all_wires}
use Rattle.compress.proofs.Refused.{said_refused, said_checked}
use Rattle.checks.specs.Causes.{wires_cause}
use Rattle.checks.proofs.Accepted.{wires_accepted, edges_accepted}
use Rattle.checks.proofs.Lowest.{lower_none}
use Rattle.checks.proofs.points.Accepted.{TablesAccepted, tables_accepted}
use Rattle.rows.specs.wires.Turn.{turned}
use Rattle.rows.proofs.wires.Turns.{length_turned, get_or_turned}
use Rattle.correction.specs.declared.nearest.Ends.{Ends}
use Rattle.correction.specs.declared.nearest.sound.SoundTables.{SoundTables}
use Rattle.non_simple.specs.divisor.Wires.{IsWire}
use Rattle.checks.specs.points.Tables.{tables_cause}
use Rattle.compress.specs.Shell.{Lent}
use Rattle.non_simple.specs.Search.{wire_divisor, or_next, find_divisor, search_cause}

-- ---- a wire that is turned
module _ (w : List ℕ) (i : ℕ) (h : i ≤ length w) where
  pub turned_front : (out rest : List ℕ) → out ≡ turned i w ++ rest → take (length w) out ≡ turned i w
  turned_front out rest e = rw e (take_at (turned i w) rest (length w) (length_turned i w h))

  pub turned_uses : (m : ℕ) → 0 < length w → ((k : ℕ) → k < length w → get_or w k 0 / 2 < m)
      → (k : ℕ) → k < length (turned i w) → get_or (turned i w) k 0 / 2 < m
  turned_uses m p us k lt =
      let l : k < length w = omega (arith, length_turned i w h) in
      rw (get_or_turned i k w h l) (us ((i + k) % length w) (mod-lt (i + k) p))

-- a wire that is turned, and written to the front of a list
pub turned_wire : (m : ℕ) (w out rest : List ℕ) (i : ℕ) → out ≡ turned i w ++ rest → i < length w → IsWire m w → IsWire m (take (length w) out)
turned_wire m w out rest i e lt is =
    let le : i ≤ length w = omega (arith, lt) in
    rw (turned_front w i le out rest e) (omega (arith, is.0, length_turned i w le), turned_uses w i le m (omega (arith, lt)) is.1)

-- the places of 4,096 edges have one for each use
pub has_place : {A : Type 0} (t : SoundTables) (w : List ℕ) (places : List A) → UsesBelow t.edges.count w → length places ≡ 4096
    → (k : ℕ) → k < length w → get_or w k 0 / 2 < length places
has_place t w places known n k lt =
    let a = edges_accepted _ _ _ _ t.edges_sound in
    omega (arith, a.below, known k lt, n)

-- ---- all wires

-- The wires that are left are wires over m edges, and give what all of them give.
pub record Scanning (es : ℕ → Edge) (vs : ℕ → Vertex) (m : ℕ) (w : Wires) (s : EachWire) : Type 0 where
  pub sound : AllOf (IsWire m) (wires_of s.uses.now s.lengths.now)
  pub is : find_divisor es vs (wires_of s.uses.now s.lengths.now) ≡ find_divisor es vs (wires_in w)

pub scanning_start : (es : ℕ → Edge) (vs : ℕ → Vertex) (m : ℕ) (w : Wires) (s : EachWire) → wires_cause m w.uses.now w.lengths.now w.count ≡ 0
    → wires_of s.uses.now s.lengths.now ≡ wires_in w → Scanning es vs m w s
scanning_start es vs m w s z e =
    let a = wires_accepted m w.uses.now w.lengths.now w.count z in
    record {
      sound = rw e (all_wires (λ u. u / 2 < m) w.uses.now (take w.count w.lengths.now) 1024 a.uses a.few a.edges);
      is = rw e refl;
    }

module _ (es : ℕ → Edge) (vs : ℕ → Vertex) (m : ℕ) (w : Wires) (s t : EachWire) (wire : List ℕ) (S : Scanning es vs m w s)
    (e : wires_of s.uses.now s.lengths.now ≡ wire ∷ wires_of t.uses.now t.lengths.now) where
  pub is_wire : IsWire m wire
  is_wire = (first_holds (IsWire m) _ _ wire e S.sound).0

  -- what the search answers, by what the wire does
  pub met : (r : Said Ends) → r ≡ wire_divisor es vs wire → or_next r (find_divisor es vs (wires_of t.uses.now t.lengths.now)) ≡ find_divisor es vs (wires_in w)
  unfolding find_divisor
  met r q = rw q (rw e at S.is)

  pub scanning_turn : none ≡ wire_divisor es vs wire → Scanning es vs m w t
  scanning_turn q = record { sound = (first_holds (IsWire m) _ _ wire e S.sound).1; is = met none q }

  pub scanning_found : (d : Ends) → result d ≡ wire_divisor es vs wire → result d ≡ find_divisor es vs (wires_in w)
  scanning_found d q = met (result d) q

  pub scanning_refused : (k : ℕ) → refused k ≡ wire_divisor es vs wire → refused k ≡ find_divisor es vs (wires_in w)
  scanning_refused k q = met (refused k) q

pub scanning_done : (es : ℕ → Edge) (vs : ℕ → Vertex) (m : ℕ) (w : Wires) (s : EachWire) → Scanning es vs m w s → wires_of s.uses.now s.lengths.now ≡ []
    → none ≡ find_divisor es vs (wires_in w)
unfolding find_divisor
scanning_done es vs m w s S e = rw e at S.is

-- ---- the call's causes, by each field, as a search finds them
module _ (vn : List ℕ) (vf : List Float) (en : List ℕ) (ef : List Float) (us ls : List ℕ) (v e n : ℕ) where
  abbrev lent_by : Lent
  lent_by = record { slices = record { vn = vn; vf = vf; en = en; ef = ef; us = us; ls = ls }; vertices = v; edges = e; wires = n }

  pub search_accepted : search_cause lent_by ≡ 0 → TablesAccepted vn vf en ef v e × (wires_cause e us ls n ≡ 0)
  unfolding search_cause
  search_accepted q =
      let a = lower_none (tables_cause vn vf en ef v e) (wires_cause e us ls n) q in
      let t = tables_accepted vn vf en ef v e a.0 in
      (t, a.1)

-- ---- the lemmas of the search over all wires, and of the call
pub ruleset scanning = (scanning_start, is_wire, scanning_turn, scanning_found, scanning_refused, scanning_done)

pub ruleset checked = (search_accepted, said_refused, said_checked)
