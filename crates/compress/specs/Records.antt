-- Document 01's terms on the records: front and back of a use, kind and number of a curve, closed edges; and the number of a preparation, of
-- document 02. Definitions only.
use Rattle.std.specs.Prelude.{Bool, true, false, ℕ, ◌/◌, ◌%◌, eqb, Float}
use Rattle.compress.specs.declared.Curve.{Curve}
use Rattle.compress.specs.declared.Curve.TheVariants.{Span, Seam}
use Rattle.compress.specs.declared.Preparation.{Preparation}
use Rattle.compress.specs.declared.Preparation.TheVariants.{Square, SingleBevel, DoubleBevel}
use Rattle.compress.specs.declared.Edge.{Edge}

-- "a use is one number: twice the edge number, plus 1 when reversed"
abbrev pub edge_of_use : ℕ → ℕ
edge_of_use u = u / 2

abbrev pub forward : ℕ → Bool
forward u = eqb (u % 2) 0

abbrev pub pick : {A : Type 0} → Bool → A → A → A
pick true a b = a
pick false a b = b

-- "Its front is the first vertex number when forward, the second when reversed; its back is the other."
unfoldable pub front_of : Edge → ℕ → ℕ
front_of e u = pick (forward u) e.front e.back

unfoldable pub back_of : Edge → ℕ → ℕ
back_of e u = pick (forward u) e.back e.front

-- front and back of a use, where the edges are given by number
unfoldable pub front_at : (ℕ → Edge) → ℕ → ℕ
front_at es u = front_of (es (edge_of_use u)) u

unfoldable pub back_at : (ℕ → Edge) → ℕ → ℕ
back_at es u = back_of (es (edge_of_use u)) u

-- "an edge with equal ends"
unfoldable pub closed : Edge → Bool
closed e = eqb e.front e.back

-- a kind field: 0 is a span, 1 a seam
abbrev pub kind_of : Curve → ℕ
kind_of (Span n a b) = 0
kind_of (Seam n p q a b) = 1

-- "a span has a curve number", "a seam has a surface number"
abbrev pub number_of : Curve → ℕ
number_of (Span n a b) = n
number_of (Seam n p q a b) = n

-- the ends of the range from t0 to t1
abbrev pub first_of : Curve → Float
first_of (Span n a b) = a
first_of (Seam n p q a b) = a

abbrev pub last_of : Curve → Float
last_of (Span n a b) = b
last_of (Seam n p q a b) = b

-- document 02, A.5: "square, single bevel or double bevel (as a number 0, 1 or 2 ..)"
abbrev pub preparation_number : Preparation → ℕ
preparation_number Square = 0
preparation_number SingleBevel = 1
preparation_number DoubleBevel = 2
