-- A wire turned, document 01's "turn the wire so that the place i is 0": the Rust's `rotate_left`. Definitions only.
use Rattle.std.specs.Prelude.{List, ◌++◌, ℕ, take, drop}

-- the uses from place i on, and then those before it
unfoldable pub turned : ℕ → List ℕ → List ℕ
turned i w = drop i w ++ take i w
