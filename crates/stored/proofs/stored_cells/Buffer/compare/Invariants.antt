use Rattle.stored.specs.Compared.{Compares}
use Rattle.stored.proofs.stored_cells.Buffer.compare.Given as goal

abbrev pub invariant-loop-cell : goal.invariant-loop-cell
invariant-loop-cell g l = Compares l.initial.list l.list
