use mathlib.Core.Path.{◌≡◌, refl, sym, ap, ◌∙◌}
use mathlib.Core.Bool.{Bool, true, false, not}
use Rattle.std.proofs.Common.{inl, inr}
use lib.Dec.{T}
use lib.Ieee.{Float, nan, inf, fin, binary64, is_nan, eq}
use lib.Ieee.Bits.{nan_bits_is}
use Rattle.std.proofs.lemmas.Float.{le_refl, lt-or-eq, lt_irrefl}
use Rattle.stored.specs.stored_cells.Floats.{has_pattern}
use Rattle.stored.proofs.stored_cells.has_pattern.Goals as goal

-- a NaN does not equal itself
differs : (x : Float) → is_nan x ≡ true → eq x x ≡ false
unfolding eq is_nan
differs nan h = refl
differs (inf s) h = cc
differs (fin s m e) h = cc

held : (b : Bool) → T b → b ≡ true
held true h = refl
held false h = absurd h

-- what is no NaN does
equals : (x : Float) → T (not (is_nan x)) → eq x x ≡ true
equals x h = elim (lt-or-eq x x (le_refl x h)) [ inl l ↦ absurd (lt_irrefl x l) | inr e ↦ held (eq x x) e ]

pub returns-then-is_nan : goal.returns-then-is_nan
unfolding has_pattern
returns-then-is_nan c =
    rw (differs c.args.x (sym c.is_nan.ensures.value ∙ c.if-is_nan.true))
    (c.is_nan-then-is_nan.ensures.value ∙ ap is_nan c.f64_from_bits_with_nan.ensures ∙ sym (nan_bits_is binary64 c.args.bits))

pub returns : goal.returns
unfolding has_pattern
returns c = rw (equals c.args.x c.if-is_nan.ensures.not_nan) refl
