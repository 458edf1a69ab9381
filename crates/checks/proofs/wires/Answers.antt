use Rattle.std.proofs.Common.{rules}
use Rattle.compress.proofs.Refused.{exit_is}
use Rattle.checks.proofs.Lying.{lying, lacking, wires_lacking, wires_over, wires_within, told_some, told_none}
use Rattle.checks.proofs.wires.Goals as goal

pub returns-in_err-all : goal.returns-in_err-all
returns-in_err-all c =
    let l = lacking _ (told_none _ _ _ _ _ c.ok_or.ensures.ok_part c.in_err-all.was c.lent_uses.ensures) in
    rw (exit_is _ _ c.from_residual.ensures.1, wires_lacking c.args.edges c.args.wires.now l) (search rules)

pub returns-in_err-count : goal.returns-in_err-count
returns-in_err-count c =
    let l = told_some _ _ _ _ _ c.ok_or.ensures.ok_part c.in_ok-all.was c.lent_uses.ensures in
    rw (exit_is _ _ c.from_residual-in_err-count.ensures.1) (wires_over c.args.edges c.args.wires.now _ _ (lying _ l.0) l.1 c.in_err-count.ensures)

pub returns : goal.returns
returns c =
    let l = told_some _ _ _ _ _ c.ok_or.ensures.ok_part c.in_ok-all.was c.lent_uses.ensures in
    wires_within c.args.edges c.args.wires.now _ _ (lying _ l.0) l.1 c.in_ok-count.ensures c.uses.ensures
