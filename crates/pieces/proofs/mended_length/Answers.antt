use Rattle.pieces.proofs.Counting.{wire_length}
use Rattle.pieces.proofs.mended_length.Goals as goal

pub returns : goal.returns
returns c = rw c.occurrences.ensures (wire_length c.args.p.edge c.args.p.first c.args.p.cuts c.args.wire.now)
