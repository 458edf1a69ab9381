-- What several cuts of one edge keep of its ends, its curve and its preparation, and of the uses of the wires. Definitions only.
use Rattle.std.specs.Prelude.{◌≡◌, ◌≢◌, List, [], ◌∷◌, ℕ, ◌+◌, ◌*◌, ◌%◌, ◌<◌, map, length, eqb, ltb, count_by, Float}
use Rattle.std.specs.List.{range_with_len}
use Rattle.compress.specs.declared.Curve.{Curve}
use Rattle.compress.specs.declared.Edge.{Edge}
use Rattle.compress.specs.Records.{pick, edge_of_use, first_of, last_of}
use Rattle.compress.specs.Shell.{Shell}
use Rattle.cutting.specs.cut_edge.Cut.{with_range}
use Rattle.cutting.specs.Keeps.{edge_in, wire_in, Keeps}

-- the edge that a piece was, its mother, where edge i of n is cut: an edge with a number below n was itself, and the others were cut off edge i
unfoldable pub mother_of : ℕ → ℕ → ℕ → ℕ
mother_of n i p = pick (ltb p n) p i

-- the use of a piece's mother, in the same direction
unfoldable pub mother_use : (ℕ → ℕ) → ℕ → ℕ
mother_use m u = m (edge_of_use u) * 2 + u % 2

-- the numbers of the pieces of edge i, along its curve, where it is cut k times
abbrev pub pieces_numbered : ℕ → ℕ → ℕ → List ℕ
pieces_numbered i n k = i ∷ range_with_len n k

-- "a chain of pieces from a to b": each begins at the vertex where the one before it ends
abbrev pub RunsAlong : List Edge → ℕ → ℕ → Type 0
RunsAlong [] a b = a ≡ b
RunsAlong (e ∷ es) a b = (e.front ≡ a) × RunsAlong es e.back b

-- the ranges of their curves join from t0 to t1: each begins where the one before it ends
abbrev pub RangesJoin : List Edge → Float → Float → Type 0
RangesJoin [] t0 t1 = t0 ≡ t1
RangesJoin (e ∷ es) t0 t1 = (first_of e.curve ≡ t0) × RangesJoin es (last_of e.curve) t1

-- a piece lies on its mother's curve: that curve with another range
abbrev pub LiesOn : Curve → Curve → Type 0
LiesOn p c = p ≡ with_range c (first_of p) (last_of p)

-- A shell before and after edge i was cut k times. Before it has n edges.
pub record CutInto (d : Edge) (s after : Shell) (i k : ℕ) : Type 0 where
  pub count : length after.edges ≡ length s.edges + k
  pub vertices : length after.vertices ≡ length s.vertices + k
  -- "new vertices .. are numbered along the curve": the edges that are cut off begin at them in order
  pub numbered : (j : ℕ) → j < k → (edge_in d after (length s.edges + j)).front ≡ length s.vertices + j
  -- every other edge stands
  pub others : (p : ℕ) → p < length s.edges → p ≢ i → edge_in d after p ≡ edge_in d s p
  -- "a chain of pieces from a to b"
  pub along : RunsAlong (map (edge_in d after) (pieces_numbered i (length s.edges) k)) (edge_in d s i).front (edge_in d s i).back
  pub ranges : RangesJoin (map (edge_in d after) (pieces_numbered i (length s.edges) k))
      (first_of (edge_in d s i).curve) (last_of (edge_in d s i).curve)
  pub curves : (p : ℕ) → p < length after.edges
      → LiesOn (edge_in d after p).curve (edge_in d s (mother_of (length s.edges) i p)).curve
  -- A.5: "Every call that cuts an edge gives each piece the preparation of the old one"
  pub preparations : (p : ℕ) → p < length after.edges
      → (edge_in d after p).preparation ≡ (edge_in d s (mother_of (length s.edges) i p)).preparation
  -- "Connected wires remain connected", and closed ones closed
  pub keeps : Keeps d s after
  -- in every wire each piece stands as often in each direction as its mother stood
  pub uses : (w u : ℕ) → edge_of_use u < length after.edges
      → count_by (eqb u) (wire_in after w) ≡ count_by (eqb (mother_use (mother_of (length s.edges) i) u)) (wire_in s w)
