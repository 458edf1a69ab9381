-- What a call that cuts edges wrote is what the next one reads: where it told a result, the slices with the counts told hold the shell that it stored.
-- Assumes nothing.
use mathlib.Core.Path.{◌≡◌, refl, ◌∙◌}
use mathlib.Core.Bool.{Bool, true, false}
use mathlib.Core.List.{List}
use Prim.Native.Nat.{ℕ, zero, suc}
use lib.ListN.{length, take}
use lib.Seq.{length-take-le}
use Rattle.std.specs.Prelude.{Option}
use Rattle.compress.specs.declared.Counts.{Counts}
use Rattle.compress.specs.Said.{result, cause_or}
use Rattle.compress.specs.Shell.{Shell, Slices, Lent, load, counts_of, has_room}
use Rattle.compress.proofs.Loading.{load_store}
use Rattle.compress.proofs.Refused.{refused_never, result_told}
use Rattle.cutting.specs.mending.Replace.{replace_wires}
use Rattle.cutting.specs.Contract.{Outcome, next_lent, input_cause, room_or, result_of, turned_away}
use Rattle.cutting.proofs.mending.Wiring.{length_replaced}
use Rattle.cutting.proofs.Outcome.{accepted}

module _ (s : Slices) (r : Shell) (c : Counts) (w : ℕ) (wires : length r.wires ≡ w) where
  room_read : (b : Bool) → has_room s (counts_of r) ≡ b → (room_or b s r).said ≡ result c → load (next_lent (room_or b s r) c w) ≡ r
  unfolding counts_of
  room_read true e p = rw (← result_told (counts_of r) c p, ← wires) (load_store s r e)
  room_read false e p = absurd (refused_never 6 p)

  -- a result had room, and is read back
  pub result_read : (result_of s r).said ≡ result c → load (next_lent (result_of s r) c w) ≡ r
  result_read p = room_read (has_room s (counts_of r)) refl p

-- where a result is told there was no cause
pub cause_none : (k : ℕ) (s : Slices) (o : Outcome) (c : Counts) → (cause_or k (turned_away s) o).said ≡ result c → k ≡ 0
cause_none zero s o c p = refl
cause_none (suc k) s o c p = absurd (refused_never (suc k) p)

-- and without a cause a call leaves what it comes to
pub cause_passed : (k : ℕ) (s : Slices) (o : Outcome) → k ≡ 0 → cause_or k (turned_away s) o ≡ o
cause_passed k s o z = rw z

-- the mended wires are as many as were lent
pub wires_kept : (l : Lent) → input_cause l ≡ 0 → (added : List (Option ℕ)) → length (replace_wires added (load l).wires) ≡ l.wires
unfolding load
wires_kept l z added =
    let A = accepted l.slices.vn l.slices.vf l.slices.en l.slices.ef l.slices.us l.slices.ls l.vertices l.edges l.wires z in
    length_replaced added l.slices.us (take l.wires l.slices.ls) ∙ length-take-le l.wires l.slices.ls A.wires.lengths
