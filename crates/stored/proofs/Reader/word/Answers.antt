use native.Mathlib.Omega.{arith}
use Rattle.std.proofs.Common.{◌≡◌, ◌∙◌, ◌+◌, ◌≤◌, take, length, ap}
use Rattle.stored.proofs.Words.{word_stands}
use Rattle.stored.proofs.Reader.word.Goals as goal

pub returns : goal.returns
returns c =
    let rest = c.in_ok-get.ensures.lookup.0 in
    let bytes = c.in_ok-bytes.ensures.cases in
    let long : c.args.self.now.at + 8 ≤ length c.args.self.now.buf.now = omega (arith, rest, bytes.enough) in
    let same : c.in_ok-bytes.bytes.now ≡ _ = bytes.same ∙ ap (take 8) rest.2 in
    (c.from_le_bytes.ensures ∙ word_stands _ _ _ long same, long)
