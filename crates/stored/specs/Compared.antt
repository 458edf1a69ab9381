-- What a word is, what a reader of the list remembers of what was compared, and what a refill keeps. Definitions only.
use Rattle.std.specs.Prelude.{◌≡◌, Bool, true, ◌&&◌, List, ℕ, ◌+◌, ◌*◌, ◌-◌, ◌<◌, get_or}
use Rattle.stored.specs.declared.Reader.{Reader}

-- a difference that was met before is not forgotten
abbrev pub Remembers : Reader → Reader → Type 0
Remembers before after = after.is_same ≡ true → before.is_same ≡ true

-- reading keeps what was noted, and the buffer
abbrev pub Keeps : Reader → Reader → Type 0
Keeps before after = (after.is_same ≡ before.is_same) × (after.buf.now ≡ before.buf.now)

-- comparing forgets no difference, and keeps the buffer
abbrev pub Compares : Reader → Reader → Type 0
Compares before after = Remembers before after × (after.buf.now ≡ before.buf.now)

-- the four bytes from a place on as a number, the lowest first; past the end a byte is 0
unfoldable pub half_at : List ℕ → ℕ → ℕ
half_at s at = get_or s at 0 + get_or s (at + 1) 0 * 256 + get_or s (at + 2) 0 * 65536 + get_or s (at + 3) 0 * 16777216

-- the eight bytes from a place on as a number, the lowest first
unfoldable pub word_at : List ℕ → ℕ → ℕ
word_at s at = half_at s at + half_at s (at + 4) * 4294967296

-- the word that stands just before the next one
abbrev pub word_before : Reader → ℕ
word_before r = word_at r.buf.now (r.at - 8)

-- a reader says "same" just if it said so before and the word that was read passes a test
abbrev pub Tested : (ℕ → Bool) → Reader → Reader → Type 0
Tested test before after = after.is_same ≡ (before.is_same && test (word_before after))

-- the first n bytes from a place on stand from another place on in another buffer
abbrev pub Moved : List ℕ → ℕ → ℕ → List ℕ → ℕ → Type 0
Moved s at n t to = (k : ℕ) → k < n → get_or t (to + k) 0 ≡ get_or s (at + k) 0
