use Rattle.rows.proofs.Room.{least, held_in, room_for}
use Rattle.rows.proofs.tables.Table.room.Goals as goal

pub overflow_sub-result : goal.overflow_sub-result
overflow_sub-result g c =
    held_in _ _ g.met.R.Row.filled.0 g.met.R.Row.filled.1 _ _ _ c.requires _ _
    (rw (← c.NUMBERS.ensures, ← c.FLOATS.ensures) (least _ _ _ c.min-rows.ensures)) (least _ _ _ c.min.ensures)

pub returns : goal.returns
returns g c =
    room_for _ _ g.met.R.Row.filled.0 g.met.R.Row.filled.1 _ _ _ c.requires _ _
    (rw (← c.NUMBERS.ensures, ← c.FLOATS.ensures) (least _ _ _ c.min-rows.ensures)) (least _ _ _ c.min.ensures)
