use Rattle.wire_kinds.specs.Kinds.{kind_cause_of}
use Rattle.wire_kinds.proofs.kind_cause.Goals as goal

pub returns : goal.returns
unfolding kind_cause_of
returns c = rw (c.lower-2.ensures, c.lower.ensures, c.float.ensures, c.uv-2.ensures, c.uv.ensures)
