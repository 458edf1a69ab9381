use Rattle.std.proofs.Common.{rules}
use Rattle.compress.proofs.Refused.{exit_is}
use Rattle.checks.proofs.Lying.{told_some, told_none}
use Rattle.correction.proofs.Tests.{first_lacking, second_lacking, over, within}
use Rattle.correction.proofs.stretches_cause.Goals as goal

pub returns-in_err-a : goal.returns-in_err-a
returns-in_err-a c =
    let l = told_none _ _ _ _ _ c.ok_or.ensures.ok_part c.in_err-a.was c.lent_uses.ensures in
    rw (exit_is _ _ c.from_residual.ensures.1, first_lacking c.args.edges _ _ c.args.second.now.uses.now c.args.second.now.count l) (search rules)

pub returns-in_err-b : goal.returns-in_err-b
returns-in_err-b c =
    let l = told_none _ _ _ _ _ c.ok_or-2.ensures.ok_part c.in_err-b.was c.lent_uses-2.ensures in
    rw (exit_is _ _ c.from_residual-in_err-b.ensures.1, second_lacking c.args.edges c.args.first.now.uses.now c.args.first.now.count _ _ l) (search rules)

pub returns-in_err-count : goal.returns-in_err-count
returns-in_err-count c =
    let a = told_some _ _ _ _ _ c.ok_or.ensures.ok_part c.in_ok-a.was c.lent_uses.ensures in
    let b = told_some _ _ _ _ _ c.ok_or-2.ensures.ok_part c.in_ok-b.was c.lent_uses-2.ensures in
    rw (exit_is _ _ c.from_residual-in_err-count.ensures.1) (over c.args.edges _ _ _ _ a.0 b.0 _ _ a.1 b.1 _ c.in_err-count.ensures)

pub returns : goal.returns
returns c =
    let a = told_some _ _ _ _ _ c.ok_or.ensures.ok_part c.in_ok-a.was c.lent_uses.ensures in
    let b = told_some _ _ _ _ _ c.ok_or-2.ensures.ok_part c.in_ok-b.was c.lent_uses-2.ensures in
    within c.args.edges _ _ _ _ a.0 b.0 _ _ a.1 b.1 _ _ _ c.in_ok-count.ensures c.uses.ensures c.uses-2.ensures c.lower.ensures
