use Rattle.wire_kinds.proofs.Sorting.{sort_accepted, sort_none, sort_no_places, sort_no_room, sort_done}
use Rattle.wire_kinds.proofs.LentEnds.sort_checked.Goals as goal
use Rattle.wire_kinds.proofs.LentEnds.sort_checked.Goals.{then-opens-lt2-via-then-opens-lt2, then-opens-lt2-via-else-opens-lt2+then-closed-k}

pub gather-n-requires-clause-wires_in : goal.gather-n-requires-clause-wires_in
gather-n-requires-clause-wires_in c = sort_accepted _ _ c.requires

pub gather-n-requires-clause-room : goal.gather-n-requires-clause-room
gather-n-requires-clause-room c = let a = sort_accepted _ _ c.requires in (a.0, a.0)

pub returns-then-n-ne2 : goal.returns-then-n-ne2
returns-then-n-ne2 c = sort_none _ _ _ _ c.requires _ c.gather-n.ensures.open_count c.if-n-ne2.true

pub returns-then-opens-lt2 : goal.returns-then-opens-lt2
returns-then-opens-lt2 c =
    let g = c.gather-n.ensures in
    elim c.then-opens-lt2.branch [
      | then-opens-lt2-via-then-opens-lt2 w ↦ sort_no_places _ _ _ _ c.requires _ g.open_count c.if-n-ne2.false w.if-opens-lt2.true
      | then-opens-lt2-via-else-opens-lt2+then-closed-k w ↦ sort_no_room _ _ _ _ c.requires _ _ g.open_count g.closed_count c.if-n-ne2.false w.if-opens-lt2.false w.if-closed-k.true
    ]

pub returns : goal.returns
returns c =
    let g = c.gather-n.ensures in
    rw (c.copy_from_slice.ensures.after, c.copy_from_slice-2.ensures.after)
    (sort_done _ _ _ _ c.requires _ _ _ _ g.open_count g.closed_count c.if-n-ne2.false c.if-opens-lt2.false c.if-closed-k.false g.opens_after g.closed_after)
