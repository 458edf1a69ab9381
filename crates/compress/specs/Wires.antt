-- Wires in a slice of uses, with their lengths in a slice beside it. Definitions only.
use Rattle.std.specs.Prelude.{List, [], ◌∷◌, ◌++◌, ℕ, ◌+◌, ◌/◌, ◌<◌, length, get_or, take, drop}

-- "the use count is the sum of the wire lengths"
unfoldable pub total : List ℕ → ℕ
total [] = 0
total (n ∷ ns) = n + total ns

-- the wires of the given lengths, one after the other
unfoldable pub wires_of : List ℕ → List ℕ → List (List ℕ)
wires_of uses [] = []
wires_of uses (n ∷ ns) = take n uses ∷ wires_of (drop n uses) ns

-- the uses of all wires, in order
unfoldable pub uses_of : List (List ℕ) → List ℕ
uses_of [] = []
uses_of (w ∷ ws) = w ++ uses_of ws

unfoldable pub lengths_of : List (List ℕ) → List ℕ
lengths_of [] = []
lengths_of (w ∷ ws) = length w ∷ lengths_of ws

-- a list written over the front of a slice: "Entries past a result keep what they held"
abbrev pub over : List ℕ → List ℕ → List ℕ
over front slice = front ++ drop (length front) slice

-- each use is of an edge below n: a clause, here and where wires are readable or joinable, and no type of a wire, since the bound is another value's
abbrev pub UsesBelow : ℕ → List ℕ → Type 0
UsesBelow n us = (k : ℕ) → k < length us → get_or us k 0 / 2 < n
