use Rattle.std.proofs.Common.{◌≡◌}
use Rattle.stored.specs.Compared.{Keeps}
use Rattle.stored.proofs.stored_cells.Buffer.fill.Given as goal

abbrev pub invariant-loop : goal.invariant-loop
invariant-loop g l = (l.self.count ≡ l.counter) × Keeps l.initial.list l.list
