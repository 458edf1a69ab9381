-- The bytes of a word are those that stand in the buffer from its place on.
use native.Mathlib.Omega.{arith}
use Rattle.std.proofs.Common.{◌≡◌, ◌∙◌, ap, ℕ, ◌+◌, ◌*◌, ◌-◌, ◌≤◌, ◌<◌, List, length, take, drop, get_or}
use Rattle.std.proofs.lemmas.List.{get_or-drop, get_or-take}
use Rattle.std.specs.List.{slice_range}
use Rattle.stored.specs.Compared.{half_at, word_at}

-- byte k of the eight, where place p is k behind the first
byte_stands : (s : List ℕ) (at k p : ℕ) → at + 8 ≤ length s → k < 8 → at + k ≡ p → get_or (take 8 (slice_range s at (length s))) k 0 ≡ get_or s p 0
byte_stands s at k p long below is =
    get_or-take 8 _ k 0 below ∙ get_or-take (length s - at) (drop at s) k 0 (omega arith) ∙ get_or-drop at s k 0 ∙ ap (λ (i : ℕ). get_or s i 0) is

-- the number that eight bytes are, the lowest first
abbrev pub low_first : List ℕ → ℕ
low_first b =
    get_or b 0 0 + get_or b 1 0 * 256 + get_or b 2 0 * 65536 + get_or b 3 0 * 16777216
    + get_or b 4 0 * 4294967296 + get_or b 5 0 * 1099511627776 + get_or b 6 0 * 281474976710656 + get_or b 7 0 * 72057594037927936

pub word_stands : (s bytes : List ℕ) (at : ℕ) → at + 8 ≤ length s → bytes ≡ take 8 (slice_range s at (length s)) → low_first bytes ≡ word_at s at
unfolding half_at word_at
word_stands s bytes at long is =
    let byte = λ (k p : ℕ) (h : k < 8) (e : at + k ≡ p). byte_stands s at k p long h e in
    let b0 = byte 0 at (omega arith) (omega arith) in
    let b1 = byte 1 (at + 1) (omega arith) (omega arith) in
    let b2 = byte 2 (at + 2) (omega arith) (omega arith) in
    let b3 = byte 3 (at + 3) (omega arith) (omega arith) in
    let b4 = byte 4 (at + 4) (omega arith) (omega arith) in
    let b5 = byte 5 (at + 4 + 1) (omega arith) (omega arith) in
    let b6 = byte 6 (at + 4 + 2) (omega arith) (omega arith) in
    let b7 = byte 7 (at + 4 + 3) (omega arith) (omega arith) in
    rw is (omega arith)
