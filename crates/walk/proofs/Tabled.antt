-- What holds of the walk holds of the walk over the table too, where every front is below the vertex count. Assumes nothing.
use Prim.Native.Nat.{ℕ, ◌<◌}
use mathlib.Core.Path.{◌≡◌, sym, subst}
use mathlib.Core.Logic.{◌≢◌}
use mathlib.Core.Bool.{Bool}
use mathlib.Core.List.{List}
use lib.ListN.{length, get_or}
use Rattle.walk.specs.Walk.{Answer, refused, walk}
use Rattle.walk.specs.Table.{table_walk}
use Rattle.walk.specs.Claim.{out, into, Claimed, TableWalks}
use Rattle.walk.proofs.Theorem.{theorem}
use Rattle.walk.proofs.Balance.{Outcome, outcomes, balanced, not_thirteen}
use Rattle.walk.proofs.Same.{same}

module _ (n : ℕ) (front back : ℕ → ℕ) (marked : ℕ → Bool) (us : List ℕ) (fits : (k : ℕ) → k < length us → front (get_or us k 0) < n) where
  tabled : (P : Answer → Type 0) → P (walk front back marked us) → P (table_walk n front back marked us)
  tabled P r = subst P (sym (same n front back marked us fits)) r

  pub table_theorem : TableWalks n front back marked us
  table_theorem = tabled (Claimed front back us) (theorem front back marked us)

  pub table_outcomes : Outcome (table_walk n front back marked us)
  table_outcomes = tabled Outcome (outcomes front back marked us)

  pub table_balanced : ((v : ℕ) → out front v us ≡ into back v us) → table_walk n front back marked us ≢ refused 11
  table_balanced even = tabled (λ a. a ≢ refused 11) (balanced front back marked us even)

  -- The case 13 stands in the definition, and is never met.
  pub never_empty : table_walk n front back marked us ≢ refused 13
  never_empty = not_thirteen (table_walk n front back marked us) table_outcomes
