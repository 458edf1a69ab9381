-- What a join asks of its wires. Definitions only.
use Rattle.std.specs.Prelude.{List, ◌++◌, ℕ, ◌+◌, ◌≤◌, length, take, drop}
use Rattle.compress.specs.declared.Edge.{Edge}
use Rattle.compress.specs.Wires.{total}
use Rattle.rows.specs.declared.tables.Table.{Table}
use Rattle.rows.specs.declared.lent.WiresMut.{WiresMut}
use Rattle.join.specs.laying.Steps.{Readable, Lying}

-- two open wires and the new ones: all of them together are within the bound, and each use can be read
pub record Joinable (edges : Table Edge) (first second : List ℕ) (w : WiresMut) : Type 0 where
  pub lies : Lying w.uses.now w.lengths.now w.count
  pub few : length first + length second + total (take w.count w.lengths.now) ≤ 1024
  pub first_rows : Readable edges.numbers.now edges.floats.now first
  pub second_rows : Readable edges.numbers.now edges.floats.now second
  pub rows : Readable edges.numbers.now edges.floats.now (take (total (take w.count w.lengths.now)) w.uses.now)

-- uses in which `joined` stands from place `from` on, and behind it the `rest` that stood from place `to` on; past them nothing is changed
abbrev pub replaced_in : List ℕ → ℕ → ℕ → ℕ → List ℕ → List ℕ
replaced_in us from to rest joined = take from us ++ (joined ++ (take rest (drop to us) ++ drop (from + length joined + rest) us))
