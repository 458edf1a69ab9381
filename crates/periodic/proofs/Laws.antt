-- What the answers of unwrapping and of the nearest copy are: one of the row, and none nearer.
-- Assumes nothing.
use mathlib.Core.Path.{◌≡◌, refl}
use mathlib.Core.Bool.{Bool, true, false}
use mathlib.Core.Logic.{⊎_elim}
use mathlib.Core.List.Memᴰ
use mathlib.Core.List.{List, [], ◌∷◌, ◌++◌, Memᴰ}
use Prim.Native.Nat.{ℕ}
use lib.Dec.{T, lit<, lit≤}
use lib.Ieee.{Float, binary64, add, sub, mul, neg, lt, le, fits, of_bits}
use Rattle.std.specs.Prelude.{Option, Some, None}
use Rattle.compress.specs.Constants.{zero64, one64, two64}
use Rattle.floats.proofs.Value.{Held}
use Rattle.floats.proofs.Rounds.{neg_held}
use Rattle.floats.proofs.Bounds.{Under, weaken, add_under, sub_under, mul_under}
use Rattle.floats.proofs.Mono.{neg_mag}
use Rattle.floats.proofs.Sized.{Sized, sized_under}
use Rattle.floats.proofs.Distance.{distance2_uv_under}
use Rattle.compress.specs.declared.Uv.{Uv}
use Rattle.compress.specs.Records.{pick}
use Rattle.periodic.specs.Unwrap.{candidates_of, away_from, nearest_of, unwrapped}
use Rattle.periodic.specs.Copies.{first_shift, later_shifts, shifts_of, shifted, copies_along, copies_over, from, nearest_copy_of}
use Rattle.compress.proofs.Choices.{smallest_member}
use Rattle.periodic.proofs.Choices.{smallest_least}

-- ---- unwrapping: the answer is one of the five candidates
pub unwrapped_member : (u u0 p : Float) → Memᴰ (unwrapped u u0 (Some p)) (candidates_of u p)
unfolding unwrapped nearest_of
unwrapped_member u u0 p = smallest_member (away_from u0) _ _

-- ---- and none of them is nearer to u0: every difference is finite
two_under : Under binary64 1075 two64
unfolding of_bits fits
two_under = record { held = record { fit = tt; bounded = tt }; small = lit≤ tt }

minus_two_under : Under binary64 1075 (neg two64)
unfolding of_bits neg fits
minus_two_under = record { held = record { fit = tt; bounded = tt }; small = lit≤ tt }

one_under : Under binary64 1075 one64
unfolding of_bits fits
one_under = record { held = record { fit = tt; bounded = tt }; small = lit≤ tt }

minus_one_under : Under binary64 1075 (neg one64)
unfolding of_bits neg fits
minus_one_under = record { held = record { fit = tt; bounded = tt }; small = lit≤ tt }

zero_under : Under binary64 1075 zero64
unfolding of_bits fits
zero_under = record { held = record { fit = tt; bounded = tt }; small = lit≤ tt }

size_held : (b : Bool) (d : Float) → Held binary64 d → Held binary64 (pick b (neg d) d)
size_held true d h = neg_held h
size_held false d h = h

away_held : (u u0 p i : Float) → Sized u → Sized u0 → Sized p → Under binary64 1075 i → Held binary64 (away_from u0 (add binary64 u (mul binary64 i p)))
unfolding away_from
away_held u u0 p i hu h0 hp hi =
    let step : Under binary64 1125 (mul binary64 i p) = mul_under 1125 (lit< tt) (lit≤ tt) hi (sized_under hp) in
    let moved : Under binary64 1126 (add binary64 u (mul binary64 i p)) = add_under (lit< tt) (weaken (lit≤ tt) (sized_under hu)) step in
    let d : Under binary64 1127 (sub binary64 (add binary64 u (mul binary64 i p)) u0) = sub_under (lit< tt) moved (weaken (lit≤ tt) (sized_under h0)) in
    size_held (lt (sub binary64 (add binary64 u (mul binary64 i p)) u0) zero64) _ d.held

candidates_held : (u u0 p : Float) → Sized u → Sized u0 → Sized p → (x : Float) → Memᴰ x (candidates_of u p) → Held binary64 (away_from u0 x)
candidates_held u u0 p hu h0 hp x m =
    let at : (i : Float) → Under binary64 1075 i → x ≡ add binary64 u (mul binary64 i p) → Held binary64 (away_from u0 x)
    = λ i hi e. rw e (away_held u u0 p i hu h0 hp hi) in
    ⊎_elim (at (neg two64) minus_two_under)
    (λ m. ⊎_elim (at (neg one64) minus_one_under)
    (λ m. ⊎_elim (at zero64 zero_under)
    (λ m. ⊎_elim (at one64 one_under)
    (λ m. ⊎_elim (at two64 two_under) (λ m. absurd (Memᴰ.not-nil m)) (Memᴰ.cases_cons m))
    (Memᴰ.cases_cons m))
    (Memᴰ.cases_cons m))
    (Memᴰ.cases_cons m))
    (Memᴰ.cases_cons m)

pub unwrapped_nearest : (u u0 p : Float) → Sized u → Sized u0 → Sized p → (c : Float) → Memᴰ c (candidates_of u p)
    → T (le (away_from u0 (unwrapped u u0 (Some p))) (away_from u0 c))
unfolding unwrapped nearest_of
unwrapped_nearest u u0 p hu h0 hp c m = smallest_least (away_from u0) _ _ (candidates_held u u0 p hu h0 hp) c m

-- ---- nearest copy: the answer is one of the copies, and none is nearer
pub copy_member : (p q : Uv) (up vp : Option Float)
    → Memᴰ (nearest_copy_of p q up vp)
    (shifted q (first_shift up) (first_shift vp) ∷ copies_along q (first_shift up) (later_shifts vp) ++ copies_over q (later_shifts up) vp)
unfolding nearest_copy_of
copy_member p q up vp = smallest_member (from p) _ _

-- a period that is absent or of a size that is accepted
abbrev pub SizedPeriod : Option Float → Type 0
SizedPeriod None = Unit
SizedPeriod (Some p) = Sized p

neg_under : {k : ℕ} {x : Float} → Under binary64 k x → Under binary64 k (neg x)
neg_under {k} {x} h = record { held = neg_held h.held; small = rw (neg_mag binary64 x) h.small }

shifts_under : (period : Option Float) → SizedPeriod period → (d : Float) → Memᴰ d (shifts_of period) → Under binary64 1125 d
shifts_under None s d m =
    ⊎_elim (λ (e : d ≡ zero64). rw e (weaken (lit≤ tt) zero_under)) (λ m. absurd (Memᴰ.not-nil m)) (Memᴰ.cases_cons m)
shifts_under (Some p) s d m =
    let h : Under binary64 1125 p = weaken (lit≤ tt) (sized_under s) in
    let by : (x : Float) → Under binary64 1125 x → d ≡ x → Under binary64 1125 d = λ x u e. rw e u in
    ⊎_elim (by _ (mul_under 1125 (lit< tt) (lit≤ tt) minus_two_under (sized_under s)))
    (λ m. ⊎_elim (by _ (neg_under h))
    (λ m. ⊎_elim (by _ (weaken (lit≤ tt) zero_under))
    (λ m. ⊎_elim (by _ h)
    (λ m. ⊎_elim (by _ (mul_under 1125 (lit< tt) (lit≤ tt) two_under (sized_under s))) (λ m. absurd (Memᴰ.not-nil m)) (Memᴰ.cases_cons m))
    (Memᴰ.cases_cons m))
    (Memᴰ.cases_cons m))
    (Memᴰ.cases_cons m))
    (Memᴰ.cases_cons m)

-- a copy's coordinates are at most 4 times as large
abbrev CopyUnder : Uv → Type 0
CopyUnder x = Under binary64 1126 x.u × Under binary64 1126 x.v

module _ (q : Uv) (hu : Sized q.u) (hv : Sized q.v) where
  shifted_under : (du dv : Float) → Under binary64 1125 du → Under binary64 1125 dv → CopyUnder (shifted q du dv)
  shifted_under du dv a b = (add_under (lit< tt) (weaken (lit≤ tt) (sized_under hu)) a, add_under (lit< tt) (weaken (lit≤ tt) (sized_under hv)) b)

  along_under : (du : Float) → Under binary64 1125 du → (dvs : List Float) → ((d : Float) → Memᴰ d dvs → Under binary64 1125 d)
      → (x : Uv) → Memᴰ x (copies_along q du dvs) → CopyUnder x
  along_under du a [] ds x m = absurd (Memᴰ.not-nil m)
  along_under du a (dv ∷ dvs) ds x m =
      ⊎_elim (λ (e : x ≡ shifted q du dv). rw e (shifted_under du dv a (ds dv (Memᴰ.head refl))))
      (λ t. along_under du a dvs (λ d i. ds d (Memᴰ.tail i)) x t) (Memᴰ.cases_cons m)

  over_under : (vp : Option Float) → SizedPeriod vp → (dus : List Float) → ((d : Float) → Memᴰ d dus → Under binary64 1125 d)
      → (x : Uv) → Memᴰ x (copies_over q dus vp) → CopyUnder x
  over_under vp s [] ds x m = absurd (Memᴰ.not-nil m)
  over_under vp s (du ∷ dus) ds x m =
      ⊎_elim (along_under du (ds du (Memᴰ.head refl)) (shifts_of vp) (shifts_under vp s) x)
      (over_under vp s dus (λ d i. ds d (Memᴰ.tail i)) x) (Memᴰ.append_cases (copies_along q du (shifts_of vp)) m)

  copies_under : (up vp : Option Float) → SizedPeriod up → SizedPeriod vp → (x : Uv)
      → Memᴰ x (shifted q (first_shift up) (first_shift vp) ∷ copies_along q (first_shift up) (later_shifts vp) ++ copies_over q (later_shifts up) vp) → CopyUnder x
  copies_under up vp su sv x m =
      let us = shifts_under up su in
      let first = us (first_shift up) (Memᴰ.head refl) in
      ⊎_elim (λ (e : x ≡ shifted q (first_shift up) (first_shift vp)). rw e (shifted_under (first_shift up) (first_shift vp) first (shifts_under vp sv (first_shift vp) (Memᴰ.head refl))))
      (λ t. ⊎_elim
      (along_under (first_shift up) first (later_shifts vp) (λ d i. shifts_under vp sv d (Memᴰ.tail i)) x)
      (over_under vp sv (later_shifts up) (λ d i. us d (Memᴰ.tail i)) x)
      (Memᴰ.append_cases (copies_along q (first_shift up) (later_shifts vp)) t))
      (Memᴰ.cases_cons m)

pub copy_nearest : (p q : Uv) (up vp : Option Float) → Sized p.u → Sized p.v → Sized q.u → Sized q.v → SizedPeriod up → SizedPeriod vp
    → (c : Uv) → Memᴰ c (shifted q (first_shift up) (first_shift vp) ∷ copies_along q (first_shift up) (later_shifts vp) ++ copies_over q (later_shifts up) vp)
    → T (le (from p (nearest_copy_of p q up vp)) (from p c))
unfolding nearest_copy_of
copy_nearest p q up vp pu pv qu qv su sv c m =
    smallest_least (from p) _ _
    (λ x i.
    let w = copies_under q qu qv up vp su sv x i in
    (distance2_uv_under 1180 (lit< tt) (lit< tt) (lit≤ tt) (weaken (lit≤ tt) (sized_under pu)) (weaken (lit≤ tt) (sized_under pv)) w.0 w.1).under.held)
    c m
