use Rattle.pieces.proofs.Rows.{place_for, use_laid, chain_room, chain_put}
use Rattle.pieces.proofs.put_use.Goals as goal

pub bounds-out-at : goal.bounds-out-at
bounds-out-at c = place_for _ _ _ _ _ _ c.requires.room

pub returns-then-u-p : goal.returns-then-u-p
returns-then-u-p c = use_laid _ _ _ _ _ _ c.requires.room c.if-u-p.true

pub put_chain-requires-clause-room : goal.put_chain-requires-clause-room
put_chain-requires-clause-room c = chain_room _ _ _ _ _ _ c.requires.room c.if-u-p.false

pub returns : goal.returns
returns c = chain_put _ _ _ _ _ _ c.requires.room c.if-u-p.false _ c.put_chain.ensures
