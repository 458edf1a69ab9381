use Rattle.std.proofs.Common.{arith, length, sym, ◌≤◌, length-take-le}
use Rattle.checks.proofs.Accepted.{wires_accepted}
use Rattle.pieces.proofs.Mending.{told, fits_in, in_place}
use Rattle.pieces.proofs.mend_wires.Goals as goal

pub total_uses-total-requires : goal.total_uses-total-requires
total_uses-total-requires c =
    let v = c.view-lent.ensures in
    let W = wires_accepted _ _ _ _ c.requires.wires_value in
    rw (v.count_value, v.lengths_value) (W.below, W.lengths)

pub replace_uses-requires-clause-lies : goal.replace_uses-requires-clause-lies
replace_uses-requires-clause-lies c =
    let v = c.view-lent.ensures in
    rw (c.total_uses-total.ensures, v.count_value, v.lengths_value) (wires_accepted _ _ _ _ c.requires.wires_value).uses

pub replace_uses-requires-clause-room : goal.replace_uses-requires-clause-room
replace_uses-requires-clause-room c =
    let v = c.view-lent.ensures in
    let n = rw (v.uses_value, v.lengths_value, v.count_value) at c.mended_lengths-n.ensures.value in
    let f = rw v.uses_value at c.uses_fit.ensures in
    rw (c.total_uses-total.ensures, v.count_value, v.lengths_value)
    (let g = fits_in _ _ _ _ _ n c.args.room _ f c.if-not-fits.false in (told _ _ _ _ _ n c.args.room _ f, g.0, g.1))

pub slice_bounds-lengths-end : goal.slice_bounds-lengths-end
slice_bounds-lengths-end c =
    omega (arith, c.view-lent.ensures.count_value, (wires_accepted _ _ _ _ c.requires.wires_value).below, c.mended_lengths-n.auto.lengths)

pub slice_bounds-copy-end : goal.slice_bounds-copy-end
slice_bounds-copy-end c =
    sym (length-take-le _ _ (omega (arith, c.view-lent.ensures.count_value, (wires_accepted _ _ _ _ c.requires.wires_value).below, c.mended_lengths-n.auto.lengths)))

pub copy-requires : goal.copy-requires
copy-requires c =
    let W = wires_accepted _ _ _ _ c.requires.wires_value in
    let few : c.args.wires.now.count ≤ length c.mended_lengths-n.new.lengths = omega (arith, W.below, c.mended_lengths-n.auto.lengths) in
    rw (c.view-lent.ensures.count_value, length-take-le _ _ few) W.lengths

pub returns-clause-mended : goal.returns-clause-mended
returns-clause-mended c =
    let v = c.view-lent.ensures in
    let E = rw (v.uses_value, v.lengths_value, v.count_value) at c.mended_lengths-n.ensures in
    in_place _ _ _ _ _ E.value c.args.room _ (rw v.uses_value at c.uses_fit.ensures) _ _ _ c.if-not-fits.false
    (rw (c.total_uses-total.ensures, v.count_value, v.lengths_value) at c.replace_uses.ensures) E.lengths_after (rw v.count_value at c.copy.ensures)
