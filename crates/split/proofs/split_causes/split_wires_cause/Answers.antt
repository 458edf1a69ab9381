use Rattle.std.proofs.Common.{rules}
use Rattle.compress.proofs.Refused.{exit_is}
use Rattle.checks.proofs.Lying.{lying, lacking, told_some, told_none}
use Rattle.split.proofs.split_causes.Tests.{face_lacking, rebuilt_lacking, many_wires, over, within}
use Rattle.split.proofs.split_causes.split_wires_cause.Goals as goal

pub returns-in_err-old : goal.returns-in_err-old
returns-in_err-old c =
    let l = lacking _ (told_none _ _ _ _ _ c.ok_or.ensures.ok_part c.in_err-old.was c.lent_uses.ensures) in
    rw (exit_is _ _ c.from_residual.ensures.1, face_lacking c.args.edges c.args.face.now c.args.rebuilt.now l) (search rules)

pub returns-in_err-new : goal.returns-in_err-new
returns-in_err-new c =
    let l = lacking _ (told_none _ _ _ _ _ c.ok_or-2.ensures.ok_part c.in_err-new.was c.lent_uses-2.ensures) in
    rw (exit_is _ _ c.from_residual-in_err-new.ensures.1, rebuilt_lacking c.args.edges c.args.face.now c.args.rebuilt.now l) (search rules)

pub returns-in_err-count : goal.returns-in_err-count
returns-in_err-count c =
    rw (exit_is _ _ c.from_residual-in_err-count.ensures.1) (many_wires c.args.edges c.args.face.now c.args.rebuilt.now _ c.in_err-count.ensures)

pub returns-in_err-count-2 : goal.returns-in_err-count-2
returns-in_err-count-2 c =
    let a = told_some _ _ _ _ _ c.ok_or.ensures.ok_part c.in_ok-old.was c.lent_uses.ensures in
    let b = told_some _ _ _ _ _ c.ok_or-2.ensures.ok_part c.in_ok-new.was c.lent_uses-2.ensures in
    rw (exit_is _ _ c.from_residual-in_err-count-2.ensures.1)
    (over c.args.edges c.args.face.now c.args.rebuilt.now (lying _ a.0) (lying _ b.0) _ _ a.1 b.1 _ c.in_err-count-2.ensures)

pub returns : goal.returns
returns c =
    let a = told_some _ _ _ _ _ c.ok_or.ensures.ok_part c.in_ok-old.was c.lent_uses.ensures in
    let b = told_some _ _ _ _ _ c.ok_or-2.ensures.ok_part c.in_ok-new.was c.lent_uses-2.ensures in
    within c.args.edges c.args.face.now c.args.rebuilt.now (lying _ a.0) (lying _ b.0) _ _ a.1 b.1 _ _ _ c.in_ok-count.ensures c.in_ok-count-2.ensures
    c.uses.ensures c.uses-2.ensures c.lower.ensures
