-- What the mending of wires asks and leaves. Definitions only.
use Rattle.std.specs.Prelude.{◌≡◌, Bool, ◌&&◌, Option, None, IfSome, Result, Ok, Err, is_ok, List, map, ℕ, ◌*◌, ◌/◌, ◌≤◌, ◌<◌, length, get_or, take}
use Rattle.std.specs.Option.{option_map}
use Rattle.compress.specs.Records.{pick}
use Rattle.compress.specs.Shell.{uses_fit}
use Rattle.compress.specs.Wires.{total, uses_of, lengths_of, over}
use Rattle.cutting.specs.declared.mending.NoRoom.{NoRoom}

-- a map of edges as numbers, where its entries hold these in a type of their own
abbrev pub numbers_of : {A : Type 0} → (A → ℕ) → List (Option A) → List (Option ℕ)
numbers_of number added = map (option_map number) added

-- each entry that is there is the number of an edge, which a use can name: a clause of four functions of this crate, of one by `Replaceable`, and no type,
-- which two callers would make to have it taken apart
abbrev pub AreNumbers : List (Option ℕ) → Type 0
AreNumbers added = (k : ℕ) → IfSome (get_or added k None) (λ m. m < 2147483648)

-- the wires lie in their slices, each use is of an edge that `added` has, and there are two places for each use and one for each length
pub record Replaceable (us ls : List ℕ) (wires : ℕ) (added : List (Option ℕ)) (out out_lengths : List ℕ) : Type 0 where
  pub wires_le : wires ≤ length ls
  pub few : total (take wires ls) ≤ 1024
  pub lent : total (take wires ls) ≤ length us
  pub edges : (k : ℕ) → k < total (take wires ls) → get_or us k 0 / 2 < length added
  pub small : AreNumbers added
  pub room : total (take wires ls) * 2 ≤ length out
  pub places : wires ≤ length out_lengths

-- wires in the fronts of two slices: r uses, and their lengths
pub record Mended (ws : List (List ℕ)) (us ls : List ℕ) (r : ℕ) : Type 0 where
  pub uses : take r us ≡ uses_of ws
  pub count : r ≡ length (uses_of ws)
  pub lengths : take (length ws) ls ≡ lengths_of ws

-- how many uses the mended wires have, whether there was room for them or not
abbrev pub count_told : Result ℕ NoRoom → ℕ
count_told (Ok n) = n
count_told (Err e) = e.uses

-- the wires ws written over the fronts of both slices, where the tables have room and there is room for their uses; else nothing is written
pub record InPlace (ws : List (List ℕ)) (room : Bool) (us ls us' ls' : List ℕ) (r : Result ℕ NoRoom) : Type 0 where
  pub count : count_told r ≡ length (uses_of ws)
  pub fits : is_ok r ≡ (room && uses_fit us (length (uses_of ws)))
  pub uses : us' ≡ pick (is_ok r) (over (uses_of ws) us) us
  pub lengths : ls' ≡ pick (is_ok r) (over (lengths_of ws) ls) ls
