use Rattle.std.proofs.Common.{arith}
use Rattle.std.proofs.Math.Nat.{mul-le-mul_left}
use Rattle.rows.proofs.tables.Table.fits.Goals as goal

pub overflow_mul-n : goal.overflow_mul-n
overflow_mul-n g c = rw c.NUMBERS.ensures (omega (arith, mul-le-mul_left c.args.n g.met.R.Row.short.0))

pub overflow_mul-result : goal.overflow_mul-result
overflow_mul-result g c = rw c.FLOATS.ensures (omega (arith, mul-le-mul_left c.args.n g.met.R.Row.short.1))
