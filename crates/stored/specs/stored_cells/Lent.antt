-- What a buffer ends as, where its cells are lent. Definitions only.
use Rattle.std.specs.Prelude.{List, ◌++◌, drop}
use Rattle.std.specs.Borrow.{Lends, Fml, RattleType, MutBor, Array}
use Rattle.stored.specs.declared.stored_cells.Buffer.{Buffer}
use Rattle.stored.specs.contracts.stored_cells.Buffer.{the_row}

module _ (T : RattleType) (b : MutBor (Buffer T.Denot)) where
  -- its cells are what was left in them, what lies behind them and their count are as they were
  abbrev pub lends_cells : MutBor (List T.Denot) → Fml
  lends_cells r = Lends (the_row T) (Array T 0) b r (λ w. record b.now { cells = w ++ drop b.now.count b.now.cells })
