-- What the tests of the first pass say: a row that passes them has no cause. Assumes nothing.
use mathlib.Core.Path.{◌≡◌, refl, sym, ◌∙◌}
use mathlib.Core.Bool.{Bool, true, false, not, ◌&&◌}
use mathlib.Core.List.{List, [], ◌∷◌}
use Prim.Native.Nat.{ℕ, zero, suc, ◌+◌, ◌*◌, ◌≤◌, ◌<◌}
use native.Mathlib.Numerals.{add-one}
use native.Mathlib.Omega.{arith}
use borrow.Author.Tests.{ltb-true, leb-true, lt-leb, le-ltb}
use lib.Dec.{T, eqb, leb, ltb}
use lib.ListN.{length, get_or}
use lib.Ieee.{Float, nan, inf, fin, binary64, up, down, below, neg, le, lt, fits}
use lib.Ieee.Fits.{and_i, and_l, and_r}
use lib.Ieee.Scale.{finite}
use Rattle.std.specs.Prelude.{fold}
use Rattle.std.proofs.lemmas.Bool.{and_parts}
use Rattle.floats.specs.Exact.{big, sized_of}
use Rattle.floats.proofs.Value.{Held, Sle, test→sle}
use Rattle.floats.proofs.Rounds.{neg_held, held_between}
use Rattle.floats.proofs.Mono.{le_trans_held, nlt→le}
use Rattle.floats.proofs.Sized.{big_held, sized_held}
use Rattle.compress.specs.declared.Uv.{Uv}
use Rattle.compress.specs.declared.Curve.{Curve}
use Rattle.compress.specs.declared.Curve.TheVariants.{Span, Seam}
use Rattle.compress.specs.declared.Vertex.TheVariants.{Pending}
use Rattle.compress.specs.Records.{pick, first_of, last_of}
use Rattle.compress.specs.Rows.{numbers_per_edge, floats_per_edge, numbers_per_vertex, floats_per_vertex, edge_kind_at, preparation_at, vertex_kind_at, curve_kind_at, curve_of, curve_at, edge_of, vertex_of}
use Rattle.compress.specs.Shell.{rows_fit}
use Rattle.checks.specs.Causes.{table_cause, when, lower_of, lowest_of, float_cause, range_cause, parameter_cause, uv_cause, point_cause, curve_cause, edge_cause, vertex_cause, edge_row_cause, vertex_row_cause, pending_row_cause}
use Rattle.checks.proofs.Lowest.{lower_first, lower_none}

-- ---- tests
pub holds : (b : Bool) → b ≡ true → T b
holds b e = rw e tt

shown : (b : Bool) → T b → b ≡ true
shown true t = refl
shown false t = absurd t

-- a number cut down to 32 bits is not above itself
pub narrow_le : (n r : ℕ) → r ≡ pick (ltb 4294967295 n) 4294967295 n → r ≤ n
narrow_le n r q = by (ltb 4294967295 n) refl
  where
    by : (b : Bool) → ltb 4294967295 n ≡ b → r ≤ n
    by true p = let h = ltb-true 4294967295 n p in let s : r ≡ 4294967295 = q ∙ rw p in omega arith
    by false p = let s : r ≡ n = q ∙ rw p in omega arith

-- ---- causes
pub lower_zero : (a b : ℕ) → a ≡ 0 → b ≡ 0 → lower_of a b ≡ 0
lower_zero a b p q = rw (p, q) (lower_first 0)

pub lowest_sound : (f : ℕ → ℕ) (i : ℕ) → lowest_of f i ≡ 0 → f i ≡ 0 → lowest_of f (i + 1) ≡ 0
unfolding lowest_of
lowest_sound f i p q = rw add-one (lower_zero (lowest_of f i) (f i) p q)

-- rows that are all without a cause
pub lowest_all : (f : ℕ → ℕ) (n : ℕ) → ((i : ℕ) → i < n → f i ≡ 0) → lowest_of f n ≡ 0
unfolding lowest_of
lowest_all f zero h = refl
lowest_all f (suc n) h = lower_zero (lowest_of f n) (f n) (lowest_all f n (λ i p. h i (omega arith))) (h n (omega arith))

-- a test of every item, with no way out, says yes: then each passes
pub folded : (f : ℕ → Bool) (us : List ℕ) (b : Bool) → fold (λ s u. s && f u) b us ≡ true → (b ≡ true) × ((k : ℕ) → k < length us → f (get_or us k 0) ≡ true)
folded f [] b e = (e, λ k h. absurd (omega arith))
folded f (u ∷ us) b e = by (folded f us (b && f u) e)
  where
    by : (b && f u ≡ true) × ((k : ℕ) → k < length us → f (get_or us k 0) ≡ true) → (b ≡ true) × ((k : ℕ) → k < length (u ∷ us) → f (get_or (u ∷ us) k 0) ≡ true)
    by r = ((and_parts b (f u) r.0).0, at r)
      where
        at : (b && f u ≡ true) × ((k : ℕ) → k < length us → f (get_or us k 0) ≡ true) → (k : ℕ) → k < length (u ∷ us) → f (get_or (u ∷ us) k 0) ≡ true
        at r zero h = (and_parts b (f u) r.0).1
        at r (suc k) h = r.1 k (omega arith)

-- a table that fits, and whose rows have no cause
pub table_passed : (w v : ℕ) (f : ℕ → ℕ) (ns : List ℕ) (fs : List Float) (n : ℕ) → rows_fit w v ns fs n ≡ true → ((i : ℕ) → i < n → f i ≡ 0) → 0 ≡ table_cause w v f ns fs n
table_passed w v f ns fs n q h =
    let p = and_parts (leb n 4096) _ q in
    let r = and_parts (leb (n * w) (length ns)) (leb (n * v) (length fs)) p.1 in
    rw (le-ltb 4096 n (leb-true n 4096 p.0), le-ltb (length ns) (n * w) (leb-true (n * w) (length ns) r.0), le-ltb (length fs) (n * v) (leb-true (n * v) (length fs) r.1))
    (sym (lowest_all f n h))

pub float_sound : (x : Float) → sized_of x ≡ true → float_cause x ≡ 0
unfolding float_cause
float_sound x e = rw e

pub sized_if_sound : (x : Float) → float_cause x ≡ 0 → T (sized_of x)
unfolding float_cause
sized_if_sound x e = by (sized_of x) e
  where
    by : (b : Bool) → when (not b) 4 ≡ 0 → T b
    by true q = tt
    by false q = absurd (omega arith)

-- ---- floats: between finite ends both are finite
chain_finite : (a x y b : Float) → T (finite a) → T (finite b) → T (le a x) → T (le x y) → T (le y b) → T (finite x) × T (finite y)
unfolding le
chain_finite nan x y b p q h k l = absurd p
chain_finite (inf s) x y b p q h k l = absurd p
chain_finite (fin s m e) x y nan p q h k l = absurd q
chain_finite (fin s m e) x y (inf t) p q h k l = absurd q
chain_finite (fin s m e) nan y (fin t n d) p q h k l = absurd h
chain_finite (fin s m e) (inf true) y (fin t n d) p q h k l = absurd h
chain_finite (fin s m e) (inf false) nan (fin t n d) p q h k l = absurd k
chain_finite (fin s m e) (inf false) (inf true) (fin t n d) p q h k l = absurd k
chain_finite (fin s m e) (inf false) (inf false) (fin t n d) p q h k l = absurd l
chain_finite (fin s m e) (inf false) (fin u o c) (fin t n d) p q h k l = absurd k
chain_finite (fin s m e) (fin r i j) nan (fin t n d) p q h k l = absurd k
chain_finite (fin s m e) (fin r i j) (inf true) (fin t n d) p q h k l = absurd k
chain_finite (fin s m e) (fin r i j) (inf false) (fin t n d) p q h k l = absurd l
chain_finite (fin s m e) (fin r i j) (fin u o c) (fin t n d) p q h k l = (tt, tt)

-- what is at most another is not above it
turned : (s : Bool) (a : ℕ) (t : Bool) (b : ℕ) → Sle s a t b → below t b s a ≡ false
turned false a false b h = le-ltb b a (omega arith)
turned false a true b h = le-ltb 0 (b + a) (omega arith)
turned true a false b h = refl
turned true a true b h = le-ltb a b (omega arith)

not_above : (x y : Float) → T (finite x) → T (finite y) → T (le x y) → lt y x ≡ false
unfolding le lt
not_above nan y p q h = absurd p
not_above (inf s) y p q h = absurd p
not_above (fin s m e) nan p q h = absurd q
not_above (fin s m e) (inf t) p q h = absurd q
not_above (fin s m e) (fin t n d) p q h = turned s (m * up e * down d) t (n * up d * down e) (test→sle s (m * up e * down d) t (n * up d * down e) h)

sized : (x : Float) → T (le (neg big) x) → T (le x big) → float_cause x ≡ 0
sized x h k = float_sound x (shown (sized_of x) (and_i (le (neg big) x) (le x big) h k))

pub range_sound : (t0 t1 : Float) → T (fits binary64 t0) → T (fits binary64 t1)
    → T (le (neg big) t0) → T (le t0 t1) → T (le t1 big) → range_cause t0 t1 ≡ 0
unfolding range_cause
range_sound t0 t1 f0 f1 a o u =
    let lo : Held binary64 (neg big) = neg_held big_held in
    let q = chain_finite (neg big) t0 t1 big lo.bounded big_held.bounded a o u in
    let h0 : Held binary64 t0 = record { fit = f0; bounded = q.0 } in
    let h1 : Held binary64 t1 = record { fit = f1; bounded = q.1 } in
    lower_zero (float_cause t0) _ (sized t0 a (le_trans_held h0 h1 big_held o u))
    (lower_zero (float_cause t1) _ (sized t1 (le_trans_held lo h0 h1 a o) u) (rw (not_above t0 t1 q.0 q.1 o)))

pub parameter_sound : (t0 t1 t : Float) → T (fits binary64 t0) → T (fits binary64 t1) → T (fits binary64 t)
    → T (le t0 t) → T (le t t1) → range_cause t0 t1 ≡ 0 → parameter_cause t0 t1 t ≡ 0
unfolding range_cause parameter_cause
parameter_sound t0 t1 t f0 f1 f a u e =
    let p = lower_none (float_cause t0) _ e in
    let s0 = sized_if_sound t0 p.0 in
    let s1 = sized_if_sound t1 (lower_none (float_cause t1) _ p.1).0 in
    let h0 : Held binary64 t0 = sized_held (record { fit = f0; size = s0 }) in
    let h1 : Held binary64 t1 = sized_held (record { fit = f1; size = s1 }) in
    let h : Held binary64 t = held_between h0 h1 f a u in
    lower_zero (float_cause t) _
    (sized t
    (le_trans_held (neg_held big_held) h0 h (and_l (le (neg big) t0) (le t0 big) s0) a)
    (le_trans_held h h1 big_held u (and_r (le (neg big) t1) (le t1 big) s1)))
    (lower_zero (when (lt t t0) 5) _ (rw (not_above t0 t h0.bounded h.bounded a)) (rw (not_above t t1 h.bounded h1.bounded u)))

-- a range without a cause is in order
not_turned : (b : Bool) → when b 5 ≡ 0 → T (not b)
not_turned true q = absurd (omega arith)
not_turned false q = tt

pub range_ordered : (t0 t1 : Float) → T (fits binary64 t0) → T (fits binary64 t1) → range_cause t0 t1 ≡ 0 → T (sized_of t0) × T (sized_of t1) × T (le t0 t1)
unfolding range_cause
range_ordered t0 t1 f0 f1 e =
    let a = lower_none (float_cause t0) _ e in
    let b = lower_none (float_cause t1) (when (lt t1 t0) 5) a.1 in
    let s0 = sized_if_sound t0 a.0 in
    let s1 = sized_if_sound t1 b.0 in
    let h0 : Held binary64 t0 = sized_held (record { fit = f0; size = s0 }) in
    let h1 : Held binary64 t1 = sized_held (record { fit = f1; size = s1 }) in
    (s0, s1, nlt→le t1 t0 h1.bounded h0.bounded (not_turned (lt t1 t0) b.1))

-- ---- records
pub uv_sound : (p : Uv) → sized_of p.u ≡ true → sized_of p.v ≡ true → uv_cause p ≡ 0
unfolding uv_cause
uv_sound p a b = lower_zero (float_cause p.u) _ (float_sound p.u a) (float_sound p.v b)

pub point_sound : (x y z : Float) → sized_of x ≡ true → sized_of y ≡ true → sized_of z ≡ true → point_cause x y z ≡ 0
unfolding point_cause
point_sound x y z a b c = lower_zero (float_cause x) _ (float_sound x a) (lower_zero (float_cause y) _ (float_sound y b) (float_sound z c))

pub span_sound : (k n : ℕ) (p q : Uv) (a b : Float) → k ≡ 0 → range_cause a b ≡ 0 → curve_cause (curve_of k n p q a b) ≡ 0
unfolding curve_of curve_cause
span_sound k n p q a b e r = rw e r

pub seam_sound : (k n : ℕ) (p q : Uv) (a b : Float) → k ≡ 1 → uv_cause p ≡ 0 → uv_cause q ≡ 0 → range_cause a b ≡ 0 → curve_cause (curve_of k n p q a b) ≡ 0
unfolding curve_of curve_cause
seam_sound k n p q a b e f g r = rw e (lower_zero (uv_cause p) _ f (lower_zero (uv_cause q) _ g r))

pub curve_range : (c : Curve) → curve_cause c ≡ 0 → range_cause (first_of c) (last_of c) ≡ 0
unfolding curve_cause
curve_range (Span n a b) e = e
curve_range (Seam n p q a b) e = (lower_none (uv_cause q) _ (lower_none (uv_cause p) _ e).1).1

curve_ends : (k n : ℕ) (p q : Uv) (a b : Float) → (first_of (curve_of k n p q a b) ≡ a) × (last_of (curve_of k n p q a b) ≡ b)
unfolding curve_of
curve_ends k n p q a b = by (eqb k 0)
  where
    by : (z : Bool) → (first_of (pick z (Span n a b) (Seam n p q a b)) ≡ a) × (last_of (pick z (Span n a b) (Seam n p q a b)) ≡ b)
    by true = (refl, refl)
    by false = (refl, refl)

-- ---- rows
pub edge_sound : (v : ℕ) (ns : List ℕ) (fs : List Float) (i : ℕ) → get_or ns (i * numbers_per_edge) 0 < v → get_or ns (i * numbers_per_edge + 1) 0 < v
    → preparation_at ns i ≤ 2
    → (edge_kind_at ns i ≤ 1) × ((n : ℕ) → curve_cause (curve_at (edge_kind_at ns i) n fs (i * floats_per_edge)) ≡ 0)
    → edge_row_cause v ns fs i ≡ 0
unfolding edge_row_cause edge_cause edge_of
edge_sound v ns fs i f b p c =
    lower_zero (when (ltb 1 (edge_kind_at ns i)) 1) _ (rw (le-ltb 1 (edge_kind_at ns i) c.0))
    (lower_zero (when (ltb 2 (preparation_at ns i)) 1) _ (rw (le-ltb 2 (preparation_at ns i) p))
    (lower_zero (when (leb v (get_or ns (i * numbers_per_edge) 0)) 2) _ (rw (lt-leb v (get_or ns (i * numbers_per_edge) 0) f))
    (lower_zero (when (leb v (get_or ns (i * numbers_per_edge + 1) 0)) 2) _ (rw (lt-leb v (get_or ns (i * numbers_per_edge + 1) 0) b)) (c.1 (get_or ns (i * numbers_per_edge + 3) 0)))))

pub given_sound : (ns : List ℕ) (fs : List Float) (i : ℕ) → vertex_kind_at ns i ≡ 0
    → point_cause (get_or fs (i * floats_per_vertex) nan) (get_or fs (i * floats_per_vertex + 1) nan) (get_or fs (i * floats_per_vertex + 2) nan) ≡ 0 → vertex_row_cause ns fs i ≡ 0
unfolding vertex_row_cause vertex_cause vertex_of
given_sound ns fs i k p = rw k (lower_zero 0 _ refl (lower_zero 0 _ refl p))

pub not_pending : (ns : List ℕ) (i : ℕ) → vertex_kind_at ns i ≡ 0 → pending_row_cause ns i ≡ 0
not_pending ns i k = rw k

-- a pending vertex of a curve of known kind, with its floats from cell b on
pub vertex_sound : (k n : ℕ) (fs : List Float) (b : ℕ) (t : Float) → curve_cause (curve_at k n fs b) ≡ 0
    → (range_cause (get_or fs (b + 4) nan) (get_or fs (b + 5) nan) ≡ 0 → parameter_cause (get_or fs (b + 4) nan) (get_or fs (b + 5) nan) t ≡ 0)
    → vertex_cause (Pending (curve_at k n fs b) t) ≡ 0
unfolding vertex_cause
vertex_sound k n fs b t c p =
    let u : Uv = record { u = get_or fs b nan; v = get_or fs (b + 1) nan } in
    let v : Uv = record { u = get_or fs (b + 2) nan; v = get_or fs (b + 3) nan } in
    let ends = curve_ends k n u v (get_or fs (b + 4) nan) (get_or fs (b + 5) nan) in
    lower_zero _ _ c (rw (ends.0, ends.1) (p (rw (ends.0, ends.1) at (curve_range (curve_at k n fs b) c))))

pub pending_sound : (ns : List ℕ) (fs : List Float) (i : ℕ) → vertex_kind_at ns i ≡ 1
    → (curve_kind_at ns i ≤ 1)
    × ((n : ℕ) → vertex_cause (Pending (curve_at (curve_kind_at ns i) n fs (i * floats_per_vertex)) (get_or fs (i * floats_per_vertex + 6) nan)) ≡ 0)
    → vertex_row_cause ns fs i ≡ 0
unfolding vertex_row_cause vertex_of
pending_sound ns fs i k c =
    rw k
    (lower_zero 0 _ refl
    (lower_zero (when (ltb 1 (curve_kind_at ns i)) 1) _ (rw (le-ltb 1 (curve_kind_at ns i) c.0)) (c.1 (get_or ns (i * numbers_per_vertex + 2) 0))))
