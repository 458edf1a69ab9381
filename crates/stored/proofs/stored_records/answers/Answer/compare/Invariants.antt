use Rattle.stored.specs.Compared.{Compares}
use Rattle.stored.proofs.stored_records.answers.Answer.compare.Given as goal

abbrev pub invariant-loop-told : goal.invariant-loop-told
invariant-loop-told g l = Compares l.initial.list l.list
