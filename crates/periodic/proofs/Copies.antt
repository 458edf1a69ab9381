-- The best of the copies, found shift by shift.
-- Assumes nothing.
use mathlib.Core.Path.{◌≡◌, refl}
use mathlib.Core.List.{List, [], ◌∷◌, foldl}
use lib.Ieee.{Float}
use Rattle.std.specs.Prelude.{Option}
use Rattle.compress.specs.declared.Uv.{Uv}
use Rattle.periodic.specs.Copies.{shifts_of, shifted, copies_along, copies_over}
use Rattle.periodic.proofs.Choices.{foldl_parts}

module _ (g : Uv → Uv → Uv) (q : Uv) where
  pub best_along : (du : Float) (dvs : List Float) (best : Uv) → foldl (λ b dv. g b (shifted q du dv)) best dvs ≡ foldl g best (copies_along q du dvs)
  best_along du [] best = refl
  best_along du (dv ∷ dvs) best = best_along du dvs (g best (shifted q du dv))

  pub best_over : (vp : Option Float) (dus : List Float) (best : Uv)
      → foldl (λ b du. foldl g b (copies_along q du (shifts_of vp))) best dus ≡ foldl g best (copies_over q dus vp)
  best_over vp [] best = refl
  best_over vp (du ∷ dus) best =
      rw (foldl_parts g (copies_along q du (shifts_of vp)) (copies_over q dus vp) best)
      (best_over vp dus (foldl g best (copies_along q du (shifts_of vp))))
