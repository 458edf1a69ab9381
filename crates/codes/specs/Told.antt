-- What a host is told: a number for the answer, and the values of a result in the places that it lent. Definitions only.
use Rattle.std.specs.Prelude.{◌≡◌, zero, suc, Float, ℤ, pos, negsuc}
use Rattle.compress.specs.declared.Uv.{Uv}
use Rattle.compress.specs.Said.{Said, result, none, refused}

-- 0 for a result, -1 for "none", and a refusal's own number
abbrev pub code_of : {A : Type 0} → Said A → ℤ
code_of (result a) = pos 0
code_of none = negsuc 0
code_of (refused n) = pos n

-- places lent for a result: written on a result only
abbrev pub places_after : {A : Type 0} → Said A → A → A
places_after (result a) before = a
places_after none before = before
places_after (refused n) before = before

-- the answer that a host reads off a code and its places: 0 is a result, which the places hold, a code above 0 is the refusal of that number,
-- and one below 0 is "none"
abbrev pub read_off : {A : Type 0} → ℤ → A → Said A
read_off (pos zero) after = result after
read_off (pos (suc n)) after = refused (suc n)
read_off (negsuc n) after = none

-- What a host is told of an answer: the code r, and what the places lent for a result hold, before the call and after it. What it reads off them
-- is the answer: so the code is 0 just where there is a result, above 0 just where the call is turned away, and -1 just where there is "none".
pub record Told {A : Type 0} (s : Said A) (before after : A) (r : ℤ) : Type 0 where
  pub code : r ≡ code_of s
  pub places : after ≡ places_after s before
  pub read : s ≡ read_off r after

-- a point, by its two numbers
abbrev pub uv_of : Float → Float → Uv
uv_of u v = record { u = u; v = v }
