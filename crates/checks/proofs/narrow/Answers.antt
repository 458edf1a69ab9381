use Rattle.std.proofs.Common.{◌≡◌, ℕ, ◌<◌, Result, Ok, Err, refl, ◌∙◌}
use Rattle.std.proofs.Common.{arith}
use Rattle.std.specs.Result.{OkIff, result_unwrap_or}
use borrow.Author.Tests.{lt-ltb, le-ltb}
use lib.Dec.{ltb}
use Rattle.compress.specs.Records.{pick}
use Rattle.checks.proofs.narrow.Goals as goal

narrowed : {E : Type 0} (n : ℕ) (t : Result ℕ E) → OkIff t (n < 4294967296) n → result_unwrap_or t 4294967295 ≡ pick (ltb 4294967295 n) 4294967295 n
narrowed n (Ok x) h = rw (le-ltb 4294967295 n (omega (arith, h.0))) h.1
narrowed n (Err e) h = rw (lt-ltb 4294967295 n (omega (arith, h))) refl

pub returns : goal.returns
returns c = c.unwrap_or.ensures ∙ narrowed _ _ c.try_from.ensures
