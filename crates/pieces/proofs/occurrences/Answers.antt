use Rattle.std.proofs.Common.{rules, refl, ◌≡◌, ◌+◌, ◌%◌, ◌/◌, arith}
use Rattle.std.specs.Prelude.{cond, fold, eqb}
use Rattle.std.proofs.lemmas.Grind.{common_steps}
use Rattle.pieces.specs.Pieces.{is_of}
use Rattle.pieces.proofs.Wrapping.{unwrapped}
use Rattle.pieces.proofs.occurrences.Goals as goal

pub returns : goal.returns
returns c =
    let a = c.args in
    let is : c.fold.result ≡ fold (λ n u. (n + cond (eqb (u / 2) a.edge) 1 0) % 4294967296) 0 a.wire.now = search (rules, common_steps) in
    rw (is, unwrapped (is_of a.edge) a.wire.now 0 (omega (arith, c.requires))) refl
