-- The first of the smallest in a row, as the Rust's `min_by` takes it. Definitions only.
use mathlib.Core.List.{List, foldl}
use Rattle.std.specs.Prelude.{Float}
use Rattle.std.specs.Float.Ieee.{lt}
use Rattle.compress.specs.Records.{pick}

-- of two the one with the smaller measure; "the earlier on a tie"
unfoldable pub smaller : {A : Type 0} → (A → Float) → A → A → A
smaller f a b = pick (lt (f b) (f a)) b a

-- of a row that begins with a
abbrev pub smallest : {A : Type 0} → (A → Float) → A → List A → A
smallest f a rest = foldl (smaller f) a rest
