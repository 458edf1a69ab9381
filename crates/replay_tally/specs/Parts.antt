-- How a tally counts, and which list comes behind which. Definitions only.
use Rattle.std.specs.Prelude.{ℕ, Bool, true, false, ◌+◌, min}
use Rattle.replay_tally.specs.declared.Part.{Part}
use Rattle.replay_tally.specs.declared.Part.TheVariants.{Stored, Altered, Ended}
use Rattle.replay_tally.specs.declared.Tally.{Tally}

-- one more, or the largest number
abbrev pub more : ℕ → ℕ
more n = min (n + 1) 18446744073709551615

-- the tally with one more call
abbrev pub counted : Tally → Bool → Tally
counted t true = record { name = t.name; calls = more t.calls; same = more t.same }
counted t false = record { name = t.name; calls = more t.calls; same = t.same }

-- the altered records come behind the stored ones, and behind them nothing
abbrev pub part_behind : Part → Part
part_behind Stored = Altered
part_behind Altered = Ended
part_behind Ended = Ended

-- the tally of the altered records after a record of a list: stored records leave it alone
abbrev pub altered_after : Part → Tally → Bool → Tally
altered_after Stored t same = t
altered_after Altered t same = counted t same
altered_after Ended t same = counted t same
