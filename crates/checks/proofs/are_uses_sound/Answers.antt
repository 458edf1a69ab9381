use Rattle.std.proofs.Common.{rules, ◌≡◌, ◌/◌, true, ◌&&◌, ltb, ◌<◌, arith, get_or}
use Rattle.std.specs.Prelude.{fold}
use Rattle.std.proofs.lemmas.Grind.{common_steps}
use borrow.Author.Tests.{ltb-true, lt-leb}
use Rattle.checks.specs.Causes.{uses_cause}
use Rattle.checks.proofs.Sound.{folded, lowest_all, narrow_le}
use Rattle.checks.proofs.are_uses_sound.Goals as goal

pub returns : goal.returns
unfolding uses_cause
returns c = λ e.
    let a = c.args in
    let n = c.narrow-bound in
    let is : c.fold.result ≡ fold (λ s u. s && ltb (u / 2) n.result) true a.uses.now = search (rules, common_steps) in
    let each = (folded (λ u. ltb (u / 2) n.result) a.uses.now true (rw is at e)).1 in
    lowest_all _ _ (λ k h.
    let u = get_or a.uses.now k 0 / 2 in
    let lt : u < a.edges = omega (arith, ltb-true u n.result (each k h), narrow_le a.edges n.result n.ensures) in
    rw (lt-leb a.edges u lt))
