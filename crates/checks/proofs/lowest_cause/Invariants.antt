use Rattle.std.proofs.Common.{◌≡◌, ℕ, ◌<◌}
use Rattle.compress.specs.Refusals.{cause_of}
use Rattle.checks.specs.Causes.{lowest_of}
use Rattle.checks.proofs.lowest_cause.Given as goal

abbrev pub invariant-loop-i : goal.invariant-loop-i
invariant-loop-i g l =
    (f : ℕ → ℕ) → ((i : ℕ) (r : _) → i < l.count → goal.F-post g l.row i r → cause_of r ≡ f i) → cause_of l.least ≡ lowest_of f l.i
