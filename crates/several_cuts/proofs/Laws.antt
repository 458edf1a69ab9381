-- Several cuts of one edge, of a shell and then of the call: the edge becomes a chain on its curve with its preparation, connected wires stay connected, and
-- each piece stands as often in each direction as its mother stood. Assumes nothing.
use mathlib.Core.Path.{◌≡◌, refl, ap, sym, subst, ◌∙◌}
use mathlib.Core.Bool.{Bool, true, false}
use mathlib.Core.List.{List, [], ◌∷◌, map}
use Prim.Native.Nat.{ℕ, zero, suc, ◌+◌, ◌-◌, ◌/◌, ◌≤◌, ◌<◌}
use native.Mathlib.Omega.{arith}
use borrow.Author.Tests.{eqb-true, eqb-false, ltb-true, ltb-false}
use lib.Dec.{eqb, ltb}
use lib.ListN.{length, get_or, set, length-set, length-append, get_or-append}
use lib.Seq.{get_or-append-add, get_or-set_same, get_or-set_other}
use Rattle.std.specs.List.{range_with_len}
use Rattle.compress.specs.declared.Edge.{Edge}
use Rattle.compress.specs.Records.{pick, first_of, last_of, front_at, back_at}
use Rattle.compress.specs.Shell.{Shell}
use Rattle.rows.specs.wires.Connected.{replaced}
use Rattle.rows.proofs.wires.Replaced.{replaced_connected, replaced_closed}
use Rattle.cutting.specs.Keeps.{edge_in, wire_in, UsesKnown}
use Rattle.pieces.specs.Pieces.{uses_for, mended, parts_of}
use Rattle.edge_cuts.specs.declared.cuts.Cut.{Cut}
use Rattle.edge_cuts.specs.Cut.{pieces_at, with_pieces, points_of, cut_at_points}
use Rattle.edge_cuts.proofs.Outcome.{length_pieces, length_with, length_points}
use Rattle.several_cuts.specs.Mothers.{mother_of, pieces_numbered, RunsAlong, RangesJoin, LiesOn, CutInto}
use Rattle.several_cuts.proofs.Numbers.{each}
use Rattle.several_cuts.proofs.Pieces.{lies_itself, pieces_along, pieces_join, piece_lies, piece_prepared, piece_front, from_row}
use Rattle.several_cuts.proofs.Uses.{Rows, use_leads, wire_tally}

wire_mended : (parts : ℕ → List ℕ) (ws : List (List ℕ)) (k : ℕ) → get_or (mended parts ws) k [] ≡ replaced (uses_for parts) (get_or ws k [])
unfolding mended replaced
wire_mended parts [] k = refl
wire_mended parts (w ∷ ws) zero = refl
wire_mended parts (w ∷ ws) (suc k) = wire_mended parts ws k

-- a mother is an edge that was lent
pub mother_below : (n i p : ℕ) → i < n → mother_of n i p < n
unfolding mother_of
mother_below n i p lt = by (ltb p n) refl
  where
    by : (t : Bool) → ltb p n ≡ t → pick t p i < n
    by true q = ltb-true p n q
    by false q = lt

-- ---- edges with a chain in place of one
module _ (d : Edge) (es : List Edge) (i : ℕ) (lt : i < length es) where
  abbrev n : ℕ
  n = length es

  pub else_at : (ps : List Edge) (k : ℕ) → k < n → (k ≡ i → ⊥) → get_or (with_pieces es i ps) k d ≡ get_or es k d
  else_at [] k h ne = refl
  else_at (p ∷ ps) k h ne = get_or-append (set es i p) ps d k (omega (arith, length-set es i p)) ∙ get_or-set_other es i k p d ne

  -- the first piece stands in place of edge i, and the others from n on
  pub first_piece : (ps : List Edge) (k : ℕ) → length ps ≡ 1 + k → get_or (with_pieces es i ps) i d ≡ get_or ps 0 d
  first_piece [] k e = absurd (omega arith)
  first_piece (p ∷ ps) k e = get_or-append (set es i p) ps d i (omega (arith, length-set es i p)) ∙ get_or-set_same es i p d lt

  pub later_piece : (ps : List Edge) (k j : ℕ) → length ps ≡ 1 + k → get_or (with_pieces es i ps) (n + j) d ≡ get_or ps (suc j) d
  later_piece [] k j e = absurd (omega arith)
  later_piece (p ∷ ps) k j e =
      let q : n + j ≡ length (set es i p) + j = omega (arith, length-set es i p) in
      rw q (get_or-append-add (set es i p) ps j d)

  -- so these are the pieces
  pub chain_is : (ps : List Edge) (k : ℕ) → length ps ≡ 1 + k → map (λ p. get_or (with_pieces es i ps) p d) (pieces_numbered i n k) ≡ ps
  chain_is [] k e = absurd (omega arith)
  chain_is (p ∷ ps) k e =
      let l : length ps ≡ k = omega arith in
      let f : ℕ → Edge = λ j. get_or (with_pieces es i (p ∷ ps)) j d in
      let rest : map f (range_with_len n (length ps)) ≡ ps = from_row d f ps n (λ j h. later_piece (p ∷ ps) k j e) in
      rw (first_piece (p ∷ ps) k e, rw l at rest) refl

-- ---- of a shell
module _ (d : Edge) (s : Shell) (i : ℕ) (cs : List Cut) (lt : i < length s.edges) where
  abbrev e : Edge
  e = edge_in d s i

  abbrev m : ℕ
  m = length s.edges

  abbrev k : ℕ
  k = length cs

  abbrev after : Shell
  after = cut_at_points s i e cs

  abbrev ps : List Edge
  ps = pieces_at e cs (length s.vertices)

  long : length ps ≡ 1 + k
  long = length_pieces e cs (length s.vertices)

  edges_are : after.edges ≡ with_pieces s.edges i ps
  unfolding cut_at_points
  edges_are = refl

  many : length after.edges ≡ m + k
  many = ap length edges_are ∙ length_with s.edges i ps k long

  vertices_are : length after.vertices ≡ length s.vertices + k
  unfolding cut_at_points
  vertices_are = length-append s.vertices (points_of cs) ∙ omega (arith, length_points cs)

  chain : map (edge_in d after) (pieces_numbered i m k) ≡ ps
  unfolding cut_at_points
  chain = chain_is d s.edges i lt ps k long

  stands : (p : ℕ) → p < m → (p ≡ i → ⊥) → edge_in d after p ≡ edge_in d s p
  unfolding cut_at_points
  stands p h ne = else_at d s.edges i lt ps p h ne

  first : edge_in d after i ≡ get_or ps 0 d
  unfolding cut_at_points
  first = first_piece d s.edges i lt ps k long

  later : (j : ℕ) → edge_in d after (m + j) ≡ get_or ps (suc j) d
  unfolding cut_at_points
  later j = later_piece d s.edges i lt ps k j long

  -- an edge afterwards is the one it was, or a piece of edge i
  told : (P : Edge → Edge → Type 0) → ((x : Edge) → P x x) → ((j : ℕ) → j ≤ k → P (get_or ps j d) e)
      → (p : ℕ) → p < length after.edges → P (edge_in d after p) (edge_in d s (mother_of m i p))
  unfolding mother_of
  told P same piece p h = by (ltb p m) (eqb p i) refl refl
    where
      by : (t b : Bool) → ltb p m ≡ t → eqb p i ≡ b → P (edge_in d after p) (edge_in d s (pick t p i))
      by true true q r = rw (eqb-true p i r, first) (piece 0 (omega arith))
      by true false q r = rw (stands p (ltb-true p m q) (eqb-false p i r)) (same (edge_in d s p))
      by false b q r =
          let g = ltb-false p m q in
          let x : p ≡ m + (p - m) = omega arith in
          let y : edge_in d after p ≡ get_or ps (suc (p - m)) d = ap (edge_in d after) x ∙ later (p - m) in
          rw y (piece (suc (p - m)) (omega (arith, many)))

  runs : RunsAlong (map (edge_in d after) (pieces_numbered i m k)) e.front e.back
  runs = subst (λ (l : List Edge). RunsAlong l e.front e.back) (sym chain) (pieces_along e cs (length s.vertices))

  along : (k' : ℕ) → k' < m → RunsAlong (map (edge_in d after) (parts_of i m k k')) (edge_in d s k').front (edge_in d s k').back
  unfolding parts_of
  along j h = by (eqb j i) refl
    where
      by : (b : Bool) → eqb j i ≡ b → RunsAlong (map (edge_in d after) (pick b (j ∷ range_with_len m k) (j ∷ []))) (edge_in d s j).front (edge_in d s j).back
      by true q = rw (eqb-true j i q) runs
      by false q =
          let z = stands j h (eqb-false j i q) in
          (ap (λ (x : Edge). x.front) z, ap (λ (x : Edge). x.back) z)

  rows_are : Rows m (length after.edges) (edge_in d s) (edge_in d after) (parts_of i m k) (mother_of m i)
  rows_are =
      record {
        along = λ j h. along j h;
        each = λ j p h g. each i m k j p h (omega (arith, many));
      }

  wires_are : (w : ℕ) → wire_in after w ≡ replaced (uses_for (parts_of i m k)) (wire_in s w)
  unfolding cut_at_points
  wires_are w = wire_mended (parts_of i m k) s.wires w

  pub cut_into : UsesKnown s → CutInto d s after i k
  unfolding UsesKnown
  cut_into known =
      let r = uses_for (parts_of i m k) in
      let leads = use_leads m (length after.edges) (edge_in d s) (edge_in d after) (parts_of i m k) (mother_of m i) rows_are in
      record {
        count = many;
        vertices = vertices_are;
        numbered = λ j h. ap (λ (x : Edge). x.front) (later j) ∙ piece_front d e cs (length s.vertices) j h;
        others = stands;
        along = runs;
        ranges = subst (λ (l : List Edge). RangesJoin l (first_of e.curve) (last_of e.curve)) (sym chain) (pieces_join e cs (length s.vertices));
        curves = told (λ (x y : Edge). LiesOn x.curve y.curve) (λ x. lies_itself x.curve) (λ j h. piece_lies d e cs (length s.vertices) j h);
        preparations = told (λ (x y : Edge). x.preparation ≡ y.preparation) (λ x. refl) (λ j h. piece_prepared d e cs (length s.vertices) j h);
        keeps = record {
          connected = λ w c.
              rw (wires_are w) (replaced_connected (front_at (edge_in d s)) (back_at (edge_in d s)) (front_at (edge_in d after)) (back_at (edge_in d after)) r (λ u. u / 2 < m) leads (wire_in s w) (known w) c);
          closed = λ w c.
              rw (wires_are w) (replaced_closed (front_at (edge_in d s)) (back_at (edge_in d s)) (front_at (edge_in d after)) (back_at (edge_in d after)) r (λ u. u / 2 < m) leads (wire_in s w) (known w) c);
        };
        uses = λ w u h.
            rw (wires_are w) (wire_tally m (length after.edges) (edge_in d s) (edge_in d after) (parts_of i m k) (mother_of m i) rows_are u h (wire_in s w) (known w));
      }
