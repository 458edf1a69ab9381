-- What stands in a wire for one use, where edges are cut into rows of pieces (document 02, A.1). Definitions only.
use Rattle.std.specs.Prelude.{List, [], ◌∷◌, ℕ, ◌+◌, ◌*◌, ◌≤◌, Bool, map, reverse, eqb}
use Rattle.std.specs.List.{range_with_len}
use Rattle.compress.specs.Records.{pick, forward, edge_of_use}
use Rattle.rows.specs.wires.Connected.{replaced}
use Rattle.pieces.specs.declared.Pieces.{Pieces}

-- "A forward use becomes the chain": the pieces are numbers of edges, along the curve
unfoldable pub chain_forward : List ℕ → List ℕ
chain_forward pieces = map (λ p. p * 2) pieces

-- "a reversed use the chain backwards"
unfoldable pub chain_backwards : List ℕ → List ℕ
chain_backwards pieces = reverse (map (λ p. p * 2 + 1) pieces)

-- what stands for a use, where `parts e` are the pieces of edge e
unfoldable pub uses_for : (ℕ → List ℕ) → ℕ → List ℕ
uses_for parts u = pick (forward u) (chain_forward (parts (edge_of_use u))) (chain_backwards (parts (edge_of_use u)))

-- "in every wire handed in"
unfoldable pub mended : (ℕ → List ℕ) → List (List ℕ) → List (List ℕ)
mended parts ws = map (replaced (uses_for parts)) ws

-- "the first under the old number, .. new .. edges are numbered along the curve": the pieces of edge e, where edge i is cut k times and the edges from n on
-- are cut off it
unfoldable pub parts_of : ℕ → ℕ → ℕ → ℕ → List ℕ
parts_of i n k e = pick (eqb e i) (e ∷ range_with_len n k) (e ∷ [])

-- the use u is of edge e
abbrev pub is_of : ℕ → ℕ → Bool
is_of e u = eqb (edge_of_use u) e

-- the pieces of each edge, as the struct has them
abbrev pub parts_by : Pieces → ℕ → List ℕ
parts_by p = parts_of p.edge p.first p.cuts

-- the first new edge is at most 4,096 and the cuts are at most 64, so no number of a piece or of its use overflows
abbrev pub Small : Pieces → Type 0
Small p = (p.first ≤ 4096) × (p.cuts ≤ 64)
