use Rattle.std.proofs.Common.{cond, Bool, true, false, refl, ap, ◌≡◌, ◌∙◌, min, is_lt, int_cmp, ℕ, ltb, Less, Greater, Equal}
use Rattle.std.proofs.Common.{arith}
use borrow.Author.Tests.{ltb-true, ltb-false}
use Rattle.compress.specs.declared.Refusal.{Refusal}
use Rattle.compress.specs.Refusals.{refusal_number}
use Rattle.compress.proofs.Refused.{rank, ranked}
use Rattle.checks.proofs.Lowest.{lower_first, lower_last, lower_refusals}
use Rattle.checks.proofs.lower.Goals as goal

least : (x y : Refusal) → refusal_number (cond (is_lt (int_cmp (rank y) (rank x))) y x) ≡ min (refusal_number x) (refusal_number y)
least x y = rw (ranked y, ranked x) (by (ltb b a) (ltb a b) refl)
  where
    a : ℕ
    a = refusal_number x

    b : ℕ
    b = refusal_number y

    by : (t u : Bool) → ltb (refusal_number y) (refusal_number x) ≡ t
        → refusal_number (cond (is_lt (cond t Less (cond u Greater Equal))) y x) ≡ min (refusal_number x) (refusal_number y)
    by true u p = omega (arith, ltb-true _ _ p)
    by false true p = omega (arith, ltb-false _ _ p)
    by false false p = omega (arith, ltb-false _ _ p)

pub returns-in-Err-Err : goal.returns-in-Err-Err
returns-in-Err-Err c = let a = c.in-Err-Err in rw (a.is-0, a.is-1) (lower_refusals a.x a.y _ (ap refusal_number c.min.ensures ∙ least a.x a.y))

pub returns-in-Err-Ok : goal.returns-in-Err-Ok
returns-in-Err-Ok c = let a = c.in-Err-Ok in rw (a.is-0, a.is-1, lower_last)

pub returns-in-Ok-default : goal.returns-in-Ok-default
returns-in-Ok-default c = rw (c.in-Ok-default.is-0, lower_first)
