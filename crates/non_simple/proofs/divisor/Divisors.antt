-- One wire of the search: where the second pair lies, and the ways out of `turned_divisor`.
-- Assumes nothing.
use mathlib.Core.Path.{◌≡◌}
use mathlib.Core.List.{List}
use Prim.Native.Nat.{ℕ, ◌+◌, ◌-◌, ◌*◌, ◌/◌, ◌≤◌, ◌<◌}
use native.Mathlib.Omega.{arith}
use mir.Syntax.{w64}
use mir.Val.{Fits}
use borrow.Author.Tests.{lt-ltb, le-ltb}
use lib.ListN.{length, get_or, drop, length-drop}
use lib.Seq.{get_or-take, get_or-drop, length-take-le}
use Rattle.std.specs.Prelude.{Option, Some, None}
use Rattle.std.specs.Option.{unwrap_or}
use Rattle.compress.specs.declared.Edge.{Edge}
use Rattle.compress.specs.declared.Vertex.{Vertex}
use Rattle.compress.specs.Records.{front_at}
use Rattle.compress.specs.Said.{Said, refused}
use Rattle.correction.specs.declared.nearest.Ends.{Ends}
use Rattle.correction.specs.nearest.Ends.{nearest_ends}
use Rattle.non_simple.specs.declared.loops.Pair.{Pair}
use Rattle.non_simple.specs.loops.Loop.{first_repeat}
use Rattle.non_simple.proofs.loops.Repeats.{pair_in}
use Rattle.non_simple.specs.divisor.Divided.{half_up, second_pair, stretch, divided_by, turned_divisor}

-- the second pair is in order and inside
pub second_in : (w : List ℕ) (j0 : ℕ) (r : Option Pair) (s : Pair) → s ≡ unwrap_or r (record { earlier = j0; later = length w }) → r ≡ first_repeat (j0 + 1) w → j0 < length w
    → (s.earlier < s.later) × (s.later ≤ length w)
second_in w j0 None s e q lt = rw e (omega arith, omega arith)
second_in w j0 (Some p) s e q lt =
    let f = pair_in w (j0 + 1) p (omega arith) q in
    rw e (f.1, omega (arith, f.2))

-- ---- the two ways out, by the second place
module _ (es : ℕ → Edge) (vs : ℕ → Vertex) (w : List ℕ) (j0 : ℕ) (s : Pair) (S : s ≡ second_pair (first_repeat (j0 + 1) w) j0 (length w)) where
  pub past_end : length w ≤ half_up (s.earlier + s.later) → refused 8 ≡ turned_divisor es vs w j0
  unfolding turned_divisor divided_by
  past_end h = rw (← S, le-ltb _ _ h)

  pub divided : (r : Said Ends) → half_up (s.earlier + s.later) < length w
      → r ≡ nearest_ends es vs (front_at es (get_or w (half_up j0) 0)) (stretch w 1 j0) (stretch w (s.earlier + 1) s.later) → r ≡ turned_divisor es vs w j0
  unfolding turned_divisor divided_by
  divided r h q = rw (← S, lt-ltb _ _ h) q

-- the uses of a stretch are uses of the wire
pub stretch_known : (m : ℕ) (w : List ℕ) (a b : ℕ) → b ≤ length w → ((k : ℕ) → k < length w → get_or w k 0 / 2 < m)
    → (k : ℕ) → k < length (stretch w a b) → get_or (stretch w a b) k 0 / 2 < m
stretch_known m w a b h known k lt =
    let n : length (stretch w a b) ≡ b - a = length-take-le (b - a) (drop a w) (omega (arith, h, length-drop a w)) in
    let p : k < b - a = omega (arith, n, lt) in
    rw (get_or-take (b - a) (drop a w) k 0 p, get_or-drop a w k 0) (known (a + k) (omega (arith, p, h)))

-- the place halfway to j, in a list that j is a place of
pub half_fits : {j l : ℕ} → 0 < j → j < l → l ≤ 1024 → Fits w64 ((j + 1) / 2 * 4)
half_fits some lt few = omega (arith, some, lt, few)
