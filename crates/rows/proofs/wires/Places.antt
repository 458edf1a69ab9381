-- Places and counts in what is copied. Assumes nothing.
use Rattle.std.proofs.Common.{◌≡◌, ℕ, ◌+◌, ◌-◌, ◌*◌, ◌≤◌, ◌<◌, List, length, take, drop, get_or, ap, sym, ◌∙◌}
use Rattle.std.proofs.Common.{arith}
use mir.Syntax.{w64}
use mir.Val.{Fits}
use lib.Seq.{take-add}
use Rattle.compress.specs.Wires.{total}
use Rattle.compress.proofs.Wires.{total_both, total_more}

-- a count below another, and what is left to it
pub count_fits : {k n : ℕ} → k < n → Fits w64 n → Fits w64 (k + 1)
count_fits h f = omega arith

-- a place in a list of m words, which a machine can hold
pub place_fits : {x m : ℕ} → x ≤ m → m * 4 < 9223372036854775808 → Fits w64 x
place_fits h f = omega arith

pub less_left : {k n : ℕ} → k < n → n - (k + 1) < n - k
less_left h = omega arith

-- sums of the first of a list
total_room : (l : List ℕ) (k n : ℕ) → k < n → n ≤ length l → total (take k l) + get_or l k 0 ≤ total (take n l)
total_room l k n h hn =
    let s : (k + 1) + (n - (k + 1)) ≡ n = omega arith in
    let t = ap (λ (m : ℕ). take m l) (sym s) ∙ take-add (k + 1) (n - (k + 1)) l in
    omega (arith, ap total t, total_both (take (k + 1) l) (take (n - (k + 1)) (drop (k + 1) l)), total_more l k (omega arith))

-- behind k wires the next one lies in what is made
pub next_lies : (made sizes : List ℕ) (n at k : ℕ) → at ≡ total (take k sizes) → k < n → n ≤ length sizes → total (take n sizes) ≤ length made
    → at + get_or sizes k 0 ≤ length made
next_lies made sizes n at k e lt hn hm = omega (arith, total_room sizes k n lt hn, e)
