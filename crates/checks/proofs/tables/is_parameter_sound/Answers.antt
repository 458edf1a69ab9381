use borrow.Author.Rules.{rules}
use lib.Ieee.{le}
use Rattle.std.proofs.lemmas.Bool.{and_parts}
use Rattle.checks.proofs.Sound.{holds, parameter_sound}
use Rattle.checks.proofs.tables.is_parameter_sound.Goals as goal

pub returns : goal.returns
returns c = λ e r.
    let a = c.args in
    let p = and_parts (le a.t0 a.t) (le a.t a.t1) e in
    parameter_sound a.t0 a.t1 a.t (search rules) (search rules) (search rules) (holds _ p.0) (holds _ p.1) r
