use Rattle.std.proofs.Common.{refl}
use borrow.Author.Tests.{eq-eqb, ne_eqb}
use Rattle.pieces.proofs.Rows.{chain_laid, chain_laid_back}
use Rattle.pieces.proofs.put_chain.Goals as goal

pub returns-then-u-eq0 : goal.returns-then-u-eq0
returns-then-u-eq0 c = chain_laid _ _ _ _ c.requires.of_edge _ c.requires.room (eq-eqb _ 0 c.if-u-eq0.true) _ _ refl c.put_forward.ensures

pub returns : goal.returns
returns c = chain_laid_back _ _ _ _ c.requires.of_edge _ c.requires.room (ne_eqb _ 0 c.if-u-eq0.false) _ c.put_backwards.ensures
