use Rattle.std.proofs.Common.{arith}
use borrow.Author.Tests.{ne_eqb}
use Rattle.periodic.specs.host_numbers.Numbers.{period_said}
use Rattle.periodic.proofs.host_numbers.LentPeriod.known.Goals as goal

pub returns-in-0 : goal.returns-in-0
unfolding period_said
returns-in-0 c = rw c.in-0.is

pub returns-in-1 : goal.returns-in-1
unfolding period_said
returns-in-1 c = rw c.in-1.is

pub returns-in_default : goal.returns-in_default
unfolding period_said
returns-in_default c = simp (ne_eqb c.args.self.kind 0 (omega arith), ne_eqb c.args.self.kind 1 (omega arith))
