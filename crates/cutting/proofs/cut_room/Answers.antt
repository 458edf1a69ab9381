use Rattle.rows.proofs.Room.{least, fitting}
use Rattle.cutting.proofs.Room.{room_for}
use Rattle.cutting.proofs.cut_room.Goals as goal
use Rattle.compress.specs.Rows.{numbers_per_edge, floats_per_edge, numbers_per_vertex, floats_per_vertex}

pub room-requires : goal.room-requires
room-requires c =
    let b = c.requires.vertices_bound in
    fitting numbers_per_vertex floats_per_vertex _ _ _ b.0 b.1 b.2

pub room-requires-2 : goal.room-requires-2
room-requires-2 c =
    let b = c.requires.edges_bound in
    fitting numbers_per_edge floats_per_edge _ _ _ b.0 b.1 b.2

pub returns : goal.returns
returns c = room_for _ _ _ _ _ _ _ _ _ c.room.ensures c.room-2.ensures (least _ _ _ c.min.ensures)
