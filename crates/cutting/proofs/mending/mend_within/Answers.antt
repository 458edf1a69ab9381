use Rattle.std.proofs.Common.{ℕ, ◌≤◌, length, arith, sym, length-take-le}
use lib.ListN.{length-replicate}
use Rattle.checks.proofs.Accepted.{wires_accepted}
use Rattle.cutting.proofs.mending.Wires.{length_numbers}
use Rattle.cutting.proofs.mending.Mending.{replaceable, mended_within, fits_in, in_place, left}
use Rattle.cutting.proofs.mending.mend_within.Goals as goal

pub replace_wires-n-requires : goal.replace_wires-n-requires
replace_wires-n-requires g c =
    let v = c.view-lent.ensures in
    rw (v.uses_value, v.lengths_value, v.count_value)
    (replaceable _ _ _ _ _ _ (rw (← length_numbers g.A.EdgeNumber.number c.args.added.now) at c.requires.wires_value) c.requires.added_small (omega (arith, c.requires.uses_few, length-replicate {A = ℕ} g.row.N 0)) (omega arith))

pub returns-then-not-fits-clause-mended : goal.returns-then-not-fits-clause-mended
returns-then-not-fits-clause-mended g c =
    let v = c.view-lent.ensures in
    let W = wires_accepted _ _ _ _ c.requires.wires_value in
    left _ _ _ _ W.lengths _ _ _ (rw (v.uses_value, v.lengths_value, v.count_value) at c.replace_wires-n.ensures) c.args.room _
    (rw v.uses_value at c.uses_fit.ensures) c.if-not-fits.true

pub copy-requires : goal.copy-requires
copy-requires g c =
    let v = c.view-lent.ensures in
    let W = wires_accepted _ _ _ _ c.requires.wires_value in
    let M = rw (v.uses_value, v.lengths_value, v.count_value) at c.replace_wires-n.ensures in
    rw (length-take-le _ _ (mended_within _ _ _ _ M)) (fits_in _ _ _ _ W.lengths _ _ _ M c.args.room _ (rw v.uses_value at c.uses_fit.ensures) c.if-not-fits.false)

pub slice_bounds-out_lengths-end : goal.slice_bounds-out_lengths-end
slice_bounds-out_lengths-end g c =
    let W = wires_accepted _ _ _ _ c.requires.wires_value in
    omega (arith, W.below, c.replace_wires-n.auto.out_lengths, c.view-lent.ensures.count_value)

pub slice_bounds-copy-end-3 : goal.slice_bounds-copy-end-3
slice_bounds-copy-end-3 g c =
    let W = wires_accepted _ _ _ _ c.requires.wires_value in
    sym (length-take-le _ _ (omega (arith, W.below, c.replace_wires-n.auto.out_lengths, c.view-lent.ensures.count_value)))

pub copy-requires-2 : goal.copy-requires-2
copy-requires-2 g c =
    let v = c.view-lent.ensures in
    let W = wires_accepted _ _ _ _ c.requires.wires_value in
    let few : c.args.wires.now.count ≤ length c.replace_wires-n.new.out_lengths = omega (arith, W.below, c.replace_wires-n.auto.out_lengths) in
    rw (v.count_value, length-take-le _ _ few) W.lengths

pub returns-clause-mended : goal.returns-clause-mended
returns-clause-mended g c =
    let v = c.view-lent.ensures in
    let W = wires_accepted _ _ _ _ c.requires.wires_value in
    let M = rw (v.uses_value, v.lengths_value, v.count_value) at c.replace_wires-n.ensures in
    let few : c.args.wires.now.count ≤ length c.replace_wires-n.new.out_lengths = omega (arith, W.below, c.replace_wires-n.auto.out_lengths) in
    in_place _ _ _ _ W.lengths _ _ _ M c.args.room _ (rw v.uses_value at c.uses_fit.ensures) _ _ c.if-not-fits.false
    (rw (length-take-le _ _ (mended_within _ _ _ _ M)) at c.copy.ensures) (rw (v.count_value, length-take-le _ _ few) at c.copy-2.ensures)
