-- What a split leaves, said of the edges as a struct. Definitions only.
use Rattle.std.specs.Prelude.{List, ℕ, Result}
use Rattle.compress.specs.declared.Edge.{Edge}
use Rattle.compress.specs.declared.Refusal.{Refusal}
use Rattle.rows.specs.declared.tables.TableMut.{TableMut}
use Rattle.split.specs.split_causes.Causes.{Buffers}
use Rattle.split.specs.declared.Boundaries.{Boundaries}
use Rattle.split.specs.Contract.{SplitOutcome, leaves_split}

-- the slices that a split may write
abbrev pub buffers : TableMut Edge → List ℕ → List ℕ → Buffers
buffers e us ls = record { en = e.numbers.now; ef = e.floats.now; us = us; ls = ls }

-- what a call leaves: its answer, and the contents of these slices
abbrev pub left : Result Boundaries Refusal → TableMut Edge → List ℕ → List ℕ → SplitOutcome
left r e us ls = leaves_split r e.numbers.now e.floats.now us ls
