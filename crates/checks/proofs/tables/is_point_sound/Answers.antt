use Rattle.checks.proofs.tables.Told.{point_test}
use Rattle.checks.proofs.tables.is_point_sound.Goals as goal

pub returns : goal.returns
returns c = rw (c.is_sized.ensures, c.is_sized-2.ensures, c.is_sized-3.ensures) (point_test _ _ _)
