-- Where the move of bytes to the front stands after each turn, and what is kept where more is read behind them. Assumes nothing.
use Prim.Native.Nat.{ℕ, ◌+◌, ◌≤◌, ◌<◌}
use mathlib.Core.Path.{◌≡◌, ◌∙◌}
use mathlib.Core.List.{List, ◌++◌}
use native.Mathlib.Omega.{arith}
use native.Mathlib.Decide.{dec_lt}
use lib.ListN.{length, get_or, set, take, get_or-append}
use lib.Seq.{get_or-set_same, get_or-set_other, get_or-take, length-take-le}
use Rattle.stored.specs.Compared.{Moved}

-- the first i bytes are moved, and those from i on are as they were
abbrev pub Stands : List ℕ → ℕ → ℕ → List ℕ → Type 0
Stands s at i t = Moved s at i t 0 × ((j : ℕ) → i ≤ j → get_or t j 0 ≡ get_or s j 0)

pub turn : (s t : List ℕ) (at i : ℕ) → i < length t → Stands s at i t → Stands s at (i + 1) (set t i (get_or t (at + i) 0))
turn s t at i h stands = (
  λ k kh. near k (dec_lt k i) kh,
  λ j jh. get_or-set_other t i j (get_or t (at + i) 0) 0 (λ e. omega arith) ∙ stands.1 j (omega arith),
)
  where
    near : (k : ℕ) → Dec (k < i) → k < i + 1 → get_or (set t i (get_or t (at + i) 0)) (0 + k) 0 ≡ get_or s (at + k) 0
    near k (yes p) kh = get_or-set_other t i (0 + k) (get_or t (at + i) 0) 0 (λ e. omega arith) ∙ stands.0 k p
    near k (no n) kh =
        let z : 0 + k ≡ i = omega (arith, n) in
        let y : k ≡ i = omega (arith, n) in
        rw (z, y) (get_or-set_same t i (get_or t (at + i) 0) 0 h ∙ stands.1 (at + i) (omega arith))

-- what is moved stays where more is read behind it
pub behind : (s t u v : List ℕ) (at n : ℕ) → n ≤ length t → v ≡ take n t ++ u → Moved s at n t 0 → Moved s at n v 0
behind s t u v at n h e moved = λ k kh.
    let z : 0 + k < length (take n t) = omega (arith, length-take-le n t h) in
    rw (e, get_or-append (take n t) u 0 (0 + k) z, get_or-take n t (0 + k) 0 (omega arith)) (moved k kh)
