-- What an input of nearest ends without a cause is.
-- Assumes nothing.
use mathlib.Core.Path.{◌≡◌}
use mathlib.Core.List.{List}
use Prim.Native.Nat.{ℕ, ◌+◌, ◌/◌, ◌≤◌, ◌<◌}
use native.Mathlib.Omega.{arith}
use borrow.Author.Tests.{ltb-false, leb-false}
use lib.Dec.{leb, ltb}
use lib.ListN.{length, get_or, take}
use lib.Seq.{get_or-take, length-take-le}
use lib.Ieee.{Float}
use Rattle.compress.proofs.Refused.{said_refused, said_checked}
use Rattle.checks.specs.Causes.{uses_cause, vertex_number_cause}
use Rattle.checks.proofs.Accepted.{passed, not_when, uses_in}
use Rattle.checks.proofs.Lowest.{lower_none}
use Rattle.checks.proofs.points.Accepted.{TablesAccepted, tables_accepted}
use Rattle.correction.specs.Correction.{LentStretches, stretches_cause, ends_cause}
use Rattle.checks.specs.points.Tables.{tables_cause}

-- a stretch without a cause: its front of n uses
pub record Stretch (e : ℕ) (us : List ℕ) (n : ℕ) : Type 0 where
  pub lent : n ≤ length us
  pub size : length (take n us) ≡ n
  pub edges : (k : ℕ) → k < length (take n us) → get_or (take n us) k 0 / 2 < e

stretch : (e : ℕ) (us : List ℕ) (n : ℕ) → n ≤ length us → uses_cause e us n ≡ 0 → Stretch e us n
stretch e us n h q =
    let l : length (take n us) ≡ n = length-take-le n us h in
    let less : (k : ℕ) → k < length (take n us) → k < n = λ k g. omega arith in
    record { lent = h; size = l; edges = λ k g. rw (get_or-take n us k 0 (less k g)) (uses_in e us n k q (less k g)) }

pub record EndsAccepted (vn : List ℕ) (vf : List Float) (en : List ℕ) (ef : List Float) (a b : List ℕ) (v e n m v0 : ℕ) : Type 0 where
  pub tables : TablesAccepted vn vf en ef v e
  pub vertex : v0 < v
  pub first : Stretch e a n
  pub second : Stretch e b m

-- by each field, as a search finds it
abbrev lent_by : List ℕ → List Float → List ℕ → List Float → List ℕ → List ℕ → ℕ → ℕ → ℕ → ℕ → ℕ → LentStretches
lent_by vn vf en ef a b v e n m v0 =
    record { vn = vn; vf = vf; en = en; ef = ef; first = a; second = b; vertices = v; edges = e; first_count = n; second_count = m; v0 = v0 }

pub ends_accepted : (vn : List ℕ) (vf : List Float) (en : List ℕ) (ef : List Float) (a b : List ℕ) (v e n m v0 : ℕ) → ends_cause (lent_by vn vf en ef a b v e n m v0) ≡ 0
    → EndsAccepted vn vf en ef a b v e n m v0
unfolding ends_cause stretches_cause
ends_accepted vn vf en ef a b v e n m v0 q =
    let t = lower_none (tables_cause vn vf en ef v e) _ q in
    let w = lower_none (vertex_number_cause v v0) _ t.1 in
    let x = passed (ltb (length a) n) _ w.1 in
    let y = passed (ltb (length b) m) _ x.1 in
    let z = passed (ltb 1024 (n + m)) _ y.1 in
    let u = lower_none (uses_cause e a n) (uses_cause e b m) z.1 in
    record {
      tables = tables_accepted vn vf en ef v e t.0;
      vertex = leb-false v v0 (not_when (leb v v0) 1 w.0);
      first = stretch e a n (ltb-false (length a) n x.0) u.0;
      second = stretch e b m (ltb-false (length b) m y.0) u.1;
    }

-- the lemmas of the call
pub ruleset checked = (ends_accepted, said_refused, said_checked)
