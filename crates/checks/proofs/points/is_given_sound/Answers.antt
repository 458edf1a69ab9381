use native.Mathlib.Omega.{arith}
use Rattle.checks.proofs.points.Given.{row_given, row_cause}
use Rattle.checks.proofs.tables.Told.{tells_no}
use Rattle.checks.specs.Causes.{lower_of, vertex_row_cause, pending_row_cause}
use Rattle.checks.proofs.points.is_given_sound.Goals as goal

pub returns-then-vertices-i-ne0 : goal.returns-then-vertices-i-ne0
returns-then-vertices-i-ne0 c = let a = c.args in
    tells_no (lower_of (vertex_row_cause a.vertices.now.numbers.now a.vertices.now.floats.now a.i) (pending_row_cause a.vertices.now.numbers.now a.i)) (λ z. omega (arith, c.if-vertices-i-ne0.true, row_given a.vertices.now.numbers.now a.vertices.now.floats.now a.i z))

pub returns : goal.returns
returns c = let a = c.args in rw (row_cause a.vertices.now.numbers.now a.vertices.now.floats.now a.i c.if-vertices-i-ne0.false) (rw c.read.ensures at c.is_point_sound.ensures)
