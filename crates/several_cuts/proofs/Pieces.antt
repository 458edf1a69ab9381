-- The pieces of an edge: they run from its front to its back, their ranges join, and each lies on its curve with its preparation. Assumes nothing.
use mathlib.Core.Path.{◌≡◌, refl, ◌∙◌}
use mathlib.Core.List.{List, [], ◌∷◌, map}
use Prim.Native.Nat.{ℕ, zero, suc, ◌+◌, ◌≤◌, ◌<◌}
use native.Mathlib.Omega.{arith}
use lib.Ieee.{Float}
use lib.ListN.{length, get_or}
use Rattle.std.specs.List.{range_with_len}
use Rattle.compress.specs.declared.Curve.{Curve}
use Rattle.compress.specs.declared.Curve.TheVariants.{Span, Seam}
use Rattle.compress.specs.declared.Edge.{Edge}
use Rattle.compress.specs.Records.{first_of, last_of}
use Rattle.cutting.specs.cut_edge.Cut.{with_range, up_to, from_on, halves_of}
use Rattle.edge_cuts.specs.declared.cuts.Cut.{Cut}
use Rattle.edge_cuts.specs.Cut.{pieces_at}
use Rattle.several_cuts.specs.Mothers.{RunsAlong, RangesJoin, LiesOn}

-- ---- curves cut

up_first : (c : Curve) (t : Float) → first_of (up_to c t) ≡ first_of c
up_first (Span k a b) t = refl
up_first (Seam k p q a b) t = refl

up_last : (c : Curve) (t : Float) → last_of (up_to c t) ≡ t
up_last (Span k a b) t = refl
up_last (Seam k p q a b) t = refl

on_first : (c : Curve) (t : Float) → first_of (from_on c t) ≡ t
on_first (Span k a b) t = refl
on_first (Seam k p q a b) t = refl

on_last : (c : Curve) (t : Float) → last_of (from_on c t) ≡ last_of c
on_last (Span k a b) t = refl
on_last (Seam k p q a b) t = refl

pub lies_itself : (c : Curve) → LiesOn c c
lies_itself (Span k a b) = refl
lies_itself (Seam k p q a b) = refl

lies_up : (c : Curve) (t : Float) → LiesOn (up_to c t) c
lies_up (Span k a b) t = refl
lies_up (Seam k p q a b) t = refl

-- what lies on the rest of a curve lies on the curve
lies_on : (c : Curve) (t a b : Float) → with_range (from_on c t) a b ≡ with_range c a b
lies_on (Span k x y) t a b = refl
lies_on (Seam k p q x y) t a b = refl

-- ---- the pieces

pub pieces_along : (e : Edge) (cs : List Cut) (n : ℕ) → RunsAlong (pieces_at e cs n) e.front e.back
unfolding pieces_at halves_of
pieces_along e [] n = (refl, refl)
pieces_along e (c ∷ cs) n = (refl, pieces_along (halves_of e c.t n).new cs (n + 1))

pub pieces_join : (e : Edge) (cs : List Cut) (n : ℕ) → RangesJoin (pieces_at e cs n) (first_of e.curve) (last_of e.curve)
unfolding pieces_at halves_of
pieces_join e [] n = (refl, refl)
pieces_join e (c ∷ cs) n =
    let r = pieces_join (halves_of e c.t n).new cs (n + 1) in
    (up_first e.curve c.t, rw (up_last e.curve c.t) (rw (on_first e.curve c.t, on_last e.curve c.t) at r))

pub piece_lies : (d e : Edge) (cs : List Cut) (n j : ℕ) → j ≤ length cs → LiesOn (get_or (pieces_at e cs n) j d).curve e.curve
unfolding pieces_at halves_of
piece_lies d e [] n zero h = lies_itself e.curve
piece_lies d e [] n (suc j) h = absurd (omega arith)
piece_lies d e (c ∷ cs) n zero h = lies_up e.curve c.t
piece_lies d e (c ∷ cs) n (suc j) h = piece_lies d (halves_of e c.t n).new cs (n + 1) j (omega arith) ∙ lies_on e.curve c.t _ _

pub piece_prepared : (d e : Edge) (cs : List Cut) (n j : ℕ) → j ≤ length cs → (get_or (pieces_at e cs n) j d).preparation ≡ e.preparation
unfolding pieces_at halves_of
piece_prepared d e [] n zero h = refl
piece_prepared d e [] n (suc j) h = absurd (omega arith)
piece_prepared d e (c ∷ cs) n zero h = refl
piece_prepared d e (c ∷ cs) n (suc j) h = piece_prepared d (halves_of e c.t n).new cs (n + 1) j (omega arith)

-- the piece behind cut j begins at its vertex
pub piece_front : (d e : Edge) (cs : List Cut) (n j : ℕ) → j < length cs → (get_or (pieces_at e cs n) (suc j) d).front ≡ n + j
unfolding pieces_at halves_of
piece_front d e [] n j h = absurd (omega arith)
piece_front d e (c ∷ []) n zero h = omega arith
piece_front d e (c ∷ []) n (suc j) h = absurd (omega arith)
piece_front d e (c ∷ b ∷ cs) n zero h = omega arith
piece_front d e (c ∷ b ∷ cs) n (suc j) h = piece_front d (halves_of e c.t n).new (b ∷ cs) (n + 1) j (omega arith) ∙ omega arith

-- what stands from number m on
pub from_row : {A : Type 0} (d : A) (f : ℕ → A) (ps : List A) (m : ℕ) → ((j : ℕ) → j < length ps → f (m + j) ≡ get_or ps j d)
    → map f (range_with_len m (length ps)) ≡ ps
from_row d f [] m h = refl
from_row d f (p ∷ ps) m h =
    let z : m + 0 ≡ m = omega arith in
    let first : f m ≡ p = rw z at (h 0 (omega arith)) in
    let more : (j : ℕ) → j < length ps → f (m + 1 + j) ≡ get_or ps j d
    = λ j lt. let q : m + 1 + j ≡ m + suc j = omega arith in rw q (h (suc j) (omega arith)) in
    rw (first, from_row d f ps (m + 1) more) refl
