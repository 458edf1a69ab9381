use Rattle.std.proofs.Common.{◌∙◌, sym, arith}
use Rattle.std.proofs.lemmas.Grind.{same_number_lists}
use Rattle.walk.proofs.marks.Marks.{length_new_uses, get_or_new_uses}
use Rattle.walk.proofs.marks.signup_new_edges.Goals as goal

pub returns : goal.returns
returns c = λ n e.
    let l = c.loop-i in
    let long = length_new_uses c.args.m n in
    same_number_lists _ _ (omega (arith, l.auto.out)) (λ k h. l.invariant k (omega (arith, c.loop-i-test.false)) ∙ sym (get_or_new_uses c.args.m n k (omega arith)))
