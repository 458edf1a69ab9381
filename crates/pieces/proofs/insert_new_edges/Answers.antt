use Rattle.pieces.proofs.Inserting.{row_room, inserted_start, inserted_turn, inserted_done}
use Rattle.pieces.proofs.insert_new_edges.Goals as goal

pub loop-u-init : goal.loop-u-init
loop-u-init c = inserted_start _ _ _ c.requires.room

pub put_use-at-requires-clause-room : goal.put_use-at-requires-clause-room
put_use-at-requires-clause-room c = row_room _ _ _ c.requires.room _ _ _ c.loop-u.invariant c.loop-u-test.true

pub loop-u-preserved : goal.loop-u-preserved
loop-u-preserved c = inserted_turn _ _ _ c.requires.room _ _ _ c.loop-u.invariant c.loop-u-test.true _ _ c.put_use-at.ensures.0 c.put_use-at.ensures.1

pub returns : goal.returns
returns c =
    let d = inserted_done _ _ _ c.requires.room _ _ _ c.loop-u.invariant c.loop-u-test.false in
    record { value = d.0; out_after = d.1 }
