-- What a call that cuts edges is lent and leaves, said of its tables and wires. Definitions only.
use Rattle.std.specs.Prelude.{Result}
use Rattle.compress.specs.declared.Counts.{Counts}
use Rattle.compress.specs.declared.Edge.{Edge}
use Rattle.compress.specs.declared.Refusal.{Refusal}
use Rattle.compress.specs.declared.Vertex.{Vertex}
use Rattle.compress.specs.Shell.{Lent}
use Rattle.rows.specs.declared.tables.TableMut.{TableMut}
use Rattle.rows.specs.declared.lent.WiresMut.{WiresMut}
use Rattle.cutting.specs.Contract.{Outcome, lent_of, leaves}

-- what a call is lent
abbrev pub lent : TableMut Vertex → TableMut Edge → WiresMut → Lent
lent v e w = lent_of v.numbers.now v.floats.now e.numbers.now e.floats.now w.uses.now w.lengths.now v.count e.count w.count

-- what a call leaves: its answer, and the tables and wires
abbrev pub left : Result Counts Refusal → TableMut Vertex → TableMut Edge → WiresMut → Outcome
left r v e w = leaves r v.numbers.now v.floats.now e.numbers.now e.floats.now w.uses.now w.lengths.now
