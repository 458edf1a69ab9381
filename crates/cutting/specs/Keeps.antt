-- What the cutting of edges keeps of the wires and of the edges handed in. Definitions only.
use Rattle.std.specs.Prelude.{◌≡◌, Option, Some, None, List, [], ℕ, ◌≤◌, ◌<◌, length, get_or}
use Rattle.compress.specs.declared.Edge.{Edge}
use Rattle.compress.specs.Records.{edge_of_use, front_at, back_at}
use Rattle.compress.specs.Rows.{preparation_at}
use Rattle.compress.specs.Shell.{Shell}
use Rattle.rows.specs.wires.Connected.{Connected, Closed}

-- edge number i of a shell, and d where there is none
abbrev pub edge_in : Edge → Shell → ℕ → Edge
edge_in d s i = get_or s.edges i d

abbrev pub front_in : Edge → Shell → ℕ → ℕ
front_in d s = front_at (edge_in d s)

abbrev pub back_in : Edge → Shell → ℕ → ℕ
back_in d s = back_at (edge_in d s)

abbrev pub wire_in : Shell → ℕ → List ℕ
wire_in s k = get_or s.wires k []

-- every use in every wire is of an edge of the shell, as the checks found it
unfoldable pub UsesKnown : Shell → Type 0
UsesKnown s = (k j : ℕ) → j < length (wire_in s k) → edge_of_use (get_or (wire_in s k) j 0) < length s.edges

-- connected wires stay connected, and closed ones closed
pub record Keeps (d : Edge) (s after : Shell) : Type 0 where
  pub connected : (k : ℕ) → Connected (front_in d s) (back_in d s) (wire_in s k) → Connected (front_in d after) (back_in d after) (wire_in after k)
  pub closed : (k : ℕ) → Closed (front_in d s) (back_in d s) (wire_in s k) → Closed (front_in d after) (back_in d after) (wire_in after k)

-- Edge j is the piece cut off edge i, one of n: the map of cut edges names it.
pub record PieceOf (added : List (Option ℕ)) (n i j : ℕ) : Type 0 where
  pub below : i < n
  pub named : get_or added i None ≡ Some j

-- document 02, A.5: "Every call that cuts an edge gives each piece the preparation of the old one." Of the numbers of n edges as they were lent, and of m
-- edges as they were left: every edge lent has its preparation still, whether it was cut or not, and every other one was cut off one of these and has
-- the preparation of its mother.
pub record PreparationsKept (added : List (Option ℕ)) (n m : ℕ) (lent left : List ℕ) : Type 0 where
  pub old : (i : ℕ) → i < n → preparation_at left i ≡ preparation_at lent i
  pub piece : (i j : ℕ) → PieceOf added n i j → (j < m) × (preparation_at left j ≡ preparation_at lent i)
  pub mother : (j : ℕ) → n ≤ j → j < m → (i : ℕ) × PieceOf added n i j
