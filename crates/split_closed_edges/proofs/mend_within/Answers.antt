use Rattle.std.proofs.lemmas.Result.{err_from_is_err_and}
use Rattle.std.proofs.Common.{arith, [], take}
use Rattle.cutting.proofs.mending.Wires.{numbers_same}
use Rattle.split_closed_edges.proofs.Outcome.{map_mends, closed_done, closed_full}
use Rattle.split_closed_edges.proofs.mend_within.Goals as goal

pub whole_as_slice-mark_closed : goal.whole_as_slice-mark_closed
whole_as_slice-mark_closed g c = omega (arith, c.requires.table)

pub shared_whole_as_front-mend_wires : goal.shared_whole_as_front-mend_wires
shared_whole_as_front-mend_wires g c = omega (arith, c.requires.table)

pub mend_wires-requires : goal.mend_wires-requires
mend_wires-requires g c =
    let m = map_mends c.args.edges.now.numbers.now c.args.edges.now.count _ _ _ c.mark_closed-cuts.ensures [] _ _ _ (omega (arith, c.requires.table)) c.requires.wires_value in
    record { wires_value = m.0; added_small = rw (numbers_same (take c.args.edges.now.count c.mark_closed-cuts.new.added)) m.1 }

pub returns-in_err-uses-clause-mended : goal.returns-in_err-uses-clause-mended
returns-in_err-uses-clause-mended g c =
    let p = err_from_is_err_and c.from_residual.result c.from_residual.ensures.1 in
    rw (p.1, p.2)
    (closed_full c.args.edges.now.numbers.now c.args.edges.now.count _ _ _ c.args.room _ c.mark_closed-cuts.new.added _ c.mark_closed-cuts.ensures _ _ _ (rw (numbers_same (take c.args.edges.now.count c.mark_closed-cuts.new.added)) at c.mend_wires.ensures.mended) _ c.in_err-uses.was)

pub returns-clause-mended : goal.returns-clause-mended
returns-clause-mended g c =
    closed_done c.args.edges.now.numbers.now c.args.edges.now.count _ _ _ c.args.room _ c.mark_closed-cuts.new.added _ c.mark_closed-cuts.ensures _ _ _ (rw (numbers_same (take c.args.edges.now.count c.mark_closed-cuts.new.added)) at c.mend_wires.ensures.mended) _ c.in_ok-uses.was
