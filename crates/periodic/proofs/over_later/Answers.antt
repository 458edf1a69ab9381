use Rattle.std.proofs.Common.{◌≡◌, Some, refl, arith}
use Rattle.std.specs.Float.{nan}
use Rattle.periodic.specs.Copies.{later_shifts}
use Rattle.periodic.proofs.Choices.{foldl_turn}
use Rattle.periodic.proofs.over_later.Goals as goal

pub returns-in-None : goal.returns-in-None
returns-in-None g c = λ h m. rw c.in-None.is refl

pub loop-d-init : goal.loop-d-init
loop-d-init g c = λ h m. refl

pub loop-d-preserved : goal.loop-d-preserved
loop-d-preserved g c =
    λ h m. foldl_turn h (later_shifts (Some c.in-Some.p)) _ _ _ _ nan c.loop-d-test.true (c.loop-d.invariant h m) (m _ _ _ c.step-point.ensures)

pub returns : goal.returns
returns g c =
    λ h m.
    let i : c.loop-d.d-index ≡ 4 = omega arith in
    rw c.in-Some.is (rw i at (c.loop-d.invariant h m))
