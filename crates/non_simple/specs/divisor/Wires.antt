-- What is asked of a wire that was checked. Definitions only.
use Rattle.std.specs.Prelude.{List, ℕ, ◌≤◌, length}
use Rattle.compress.specs.Wires.{UsesBelow}

-- A wire over m edges has at most 1,024 uses.
abbrev pub IsWire : ℕ → List ℕ → Type 0
IsWire m w = (length w ≤ 1024) × UsesBelow m w
