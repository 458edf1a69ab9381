-- The numbers of document 01's table, "When a call is turned away", and those that document 02 adds to it. Definitions only.
use Rattle.std.specs.Prelude.{◌≡◌, ◌⊎◌, ℕ, Result, Ok, Err}
use Rattle.compress.specs.declared.Refusal.{Refusal}
use Rattle.compress.specs.declared.Refusal.TheVariants.{Malformed, VertexNumber, EdgeNumber, NotSized, OutOfRange, NoRoom, PendingVertex, PastEnd, OddDivisor, RepeatedVertex, DeadEnd, TooManyUses, EmptyList, SeveralCuts, EmptyOpenWire, TooManyCuts, NotRising, EighthsOutOfRange}

abbrev pub refusal_number : Refusal → ℕ
-- a bound on a count is passed by the input, a count or a sum of wire lengths is above what was lent, or a kind or a preparation is unknown
refusal_number Malformed = 1
-- a vertex number is not below the vertex count
refusal_number VertexNumber = 2
-- an edge number is not below the edge count
refusal_number EdgeNumber = 3
-- an f64 is not a number, or above 1.0e15 in size
refusal_number NotSized = 4
-- t0 is above t1, a cut or pending parameter is outside its curve's range, or a period is not above 0
refusal_number OutOfRange = 5
-- the result passes a bound on a count, or a lent buffer is too short for it
refusal_number NoRoom = 6
-- a vertex lent to nearest ends or to the non-simple search is pending
refusal_number PendingVertex = 7
-- the second place is past the end
refusal_number PastEnd = 8
-- an odd count on the divisor
refusal_number OddDivisor = 9
-- a vertex twice on the divisor
refusal_number RepeatedVertex = 10
-- a dead end
refusal_number DeadEnd = 11
-- a list of three or more uses reached, which document 01 calls a crowd
refusal_number TooManyUses = 12
-- an empty list reached
refusal_number EmptyList = 13
-- two or more cuts
refusal_number SeveralCuts = 14
-- an empty open wire in a join
refusal_number EmptyOpenWire = 15
-- document 02, A.1: more than 64 cuts
refusal_number TooManyCuts = 16
-- document 02, A.1: cuts whose parameters do not rise strictly
refusal_number NotRising = 17
-- document 02, A.3: a number of eighths outside 1 to 7
refusal_number EighthsOutOfRange = 18

-- n is a number of the table: a refusal has it
abbrev pub InTable : ℕ → Type 0
InTable n = (r : Refusal) × (refusal_number r ≡ n)

-- n is a cause: 0, which is none, or a number of the table
abbrev pub IsCause : ℕ → Type 0
IsCause n = (n ≡ 0) ⊎ InTable n

-- the number of a cause; 0 is none
abbrev pub cause_of : {A : Type 0} → Result A Refusal → ℕ
cause_of (Ok a) = 0
cause_of (Err r) = refusal_number r
