use mathlib.Core.Bool.{◌&&◌}
use borrow.Author.Rules.{rules}
use lib.Ieee.{le, neg}
use Rattle.floats.specs.Exact.{big}
use Rattle.std.proofs.lemmas.Bool.{and_parts}
use Rattle.checks.proofs.Sound.{holds, range_sound}
use Rattle.checks.proofs.tables.is_range_sound.Goals as goal

pub returns : goal.returns
returns c = λ e.
    let p = and_parts (le (neg big) c.args.t0 && le c.args.t0 c.args.t1) (le c.args.t1 big) e in
    let q = and_parts (le (neg big) c.args.t0) (le c.args.t0 c.args.t1) p.0 in
    range_sound c.args.t0 c.args.t1 (search rules) (search rules) (holds _ q.0) (holds _ q.1) (holds _ p.1)
