use Rattle.pieces.specs.Pieces.{uses_for, parts_by}
use Rattle.pieces.proofs.Inserting.{Inserted}
use Rattle.pieces.proofs.insert_new_edges.Given as goal

abbrev pub invariant-loop-u : goal.invariant-loop-u
invariant-loop-u l = Inserted (uses_for (parts_by l.p)) l.wire l.initial.out l.u-index l.at l.out
