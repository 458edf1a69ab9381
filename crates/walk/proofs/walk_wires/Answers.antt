use Rattle.std.proofs.Common.{sym, length-take-le}
use Rattle.compress.proofs.Refused.{exit_is}
use Rattle.walk.proofs.Storing.{nothing_left, wires_fit, lengths_fit, copies_left}
use Rattle.walk.proofs.walk_wires.Goals as goal

pub returns-in_err-walked : goal.returns-in_err-walked
returns-in_err-walked c =
    rw (exit_is _ _ c.from_residual.ensures.1) (nothing_left _ _ _ _ _ _ _ c.in_err-walked.ensures.traced)

pub copy_wires-requires : goal.copy_wires-requires
copy_wires-requires c =
    let w = c.in_ok-walked in
    wires_fit c.requires.sound _ _ w.walked w.ensures.traced _ (w.ensures.made_len, w.ensures.sizes_len) c.requires.uses_room

pub slice_bounds-sizes-end : goal.slice_bounds-sizes-end
slice_bounds-sizes-end c =
    let w = c.in_ok-walked in
    (lengths_fit c.requires.sound _ _ w.walked w.ensures.traced _ w.ensures.sizes_len c.requires.lengths_room).0

pub slice_bounds-copy-end : goal.slice_bounds-copy-end
slice_bounds-copy-end c =
    let w = c.in_ok-walked in
    sym (length-take-le _ _ (lengths_fit c.requires.sound _ _ w.walked w.ensures.traced _ w.ensures.sizes_len c.requires.lengths_room).0)

pub copy-requires : goal.copy-requires
copy-requires c =
    let w = c.in_ok-walked in
    let fit = lengths_fit c.requires.sound _ _ w.walked w.ensures.traced _ w.ensures.sizes_len c.requires.lengths_room in
    rw (length-take-le _ _ fit.0) fit.1

pub returns : goal.returns
returns c =
    let w = c.in_ok-walked in
    let fit = lengths_fit c.requires.sound _ _ w.walked w.ensures.traced _ w.ensures.sizes_len c.requires.lengths_room in
    copies_left c.requires.sound _ _ w.walked w.ensures.traced _ _ c.copy_wires.ensures (rw (length-take-le _ _ fit.0) at c.copy.ensures)
