use Rattle.std.proofs.Common.{rules}
use Rattle.compress.proofs.Refused.{exit_is}
use Rattle.checks.proofs.Lying.{lying, lacking, told_some, told_none}
use Rattle.join.proofs.Causes.{first_lacking, second_lacking, new_lacking, many_wires, over, within}
use Rattle.join.proofs.join_wires_cause.Goals as goal

pub returns-in_err-a : goal.returns-in_err-a
returns-in_err-a c =
    let l = told_none _ _ _ _ _ c.ok_or.ensures.ok_part c.in_err-a.was c.lent_uses.ensures in
    rw (exit_is _ _ c.from_residual.ensures.1, first_lacking c.args.edges c.args.first.now c.args.second.now c.args.wires.now l) (search rules)

pub returns-in_err-b : goal.returns-in_err-b
returns-in_err-b c =
    let l = told_none _ _ _ _ _ c.ok_or-2.ensures.ok_part c.in_err-b.was c.lent_uses-2.ensures in
    rw (exit_is _ _ c.from_residual-in_err-b.ensures.1, second_lacking c.args.edges c.args.first.now c.args.second.now c.args.wires.now l) (search rules)

pub returns-in_err-new : goal.returns-in_err-new
returns-in_err-new c =
    let l = lacking _ (told_none _ _ _ _ _ c.ok_or-3.ensures.ok_part c.in_err-new.was c.lent_uses-3.ensures) in
    rw (exit_is _ _ c.from_residual-in_err-new.ensures.1, new_lacking c.args.edges c.args.first.now c.args.second.now c.args.wires.now l) (search rules)

pub returns-in_err-count : goal.returns-in_err-count
returns-in_err-count c =
    rw (exit_is _ _ c.from_residual-in_err-count.ensures.1) (many_wires c.args.edges c.args.first.now c.args.second.now c.args.wires.now _ c.in_err-count.ensures)

pub returns-in_err-count-2 : goal.returns-in_err-count-2
returns-in_err-count-2 c =
    let a = told_some _ _ _ _ _ c.ok_or.ensures.ok_part c.in_ok-a.was c.lent_uses.ensures in
    let b = told_some _ _ _ _ _ c.ok_or-2.ensures.ok_part c.in_ok-b.was c.lent_uses-2.ensures in
    let n = told_some _ _ _ _ _ c.ok_or-3.ensures.ok_part c.in_ok-new.was c.lent_uses-3.ensures in
    rw (exit_is _ _ c.from_residual-in_err-count-2.ensures.1)
    (over c.args.edges c.args.first.now c.args.second.now c.args.wires.now a.0 b.0 (lying _ n.0) _ _ _ a.1 b.1 n.1 _ c.in_err-count-2.ensures)

pub returns : goal.returns
returns c =
    let a = told_some _ _ _ _ _ c.ok_or.ensures.ok_part c.in_ok-a.was c.lent_uses.ensures in
    let b = told_some _ _ _ _ _ c.ok_or-2.ensures.ok_part c.in_ok-b.was c.lent_uses-2.ensures in
    let n = told_some _ _ _ _ _ c.ok_or-3.ensures.ok_part c.in_ok-new.was c.lent_uses-3.ensures in
    within c.args.edges c.args.first.now c.args.second.now c.args.wires.now a.0 b.0 (lying _ n.0) _ _ _ a.1 b.1 n.1 _ _ _ _ _
    c.in_ok-count.ensures c.in_ok-count-2.ensures c.uses.ensures c.uses-2.ensures c.uses-of_new.ensures c.lower.ensures c.lower-2.ensures
