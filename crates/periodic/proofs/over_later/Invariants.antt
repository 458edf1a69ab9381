use Rattle.std.proofs.Common.{◌≡◌, Float, take}
use mathlib.Core.List.{foldl}
use Rattle.compress.specs.declared.Uv.{Uv}
use Rattle.periodic.proofs.over_later.Given as goal

abbrev pub invariant-loop-d : goal.invariant-loop-d
invariant-loop-d g l =
    (h : Uv → Float → Uv) → ((a : Uv) (d : Float) (b : Uv) → goal.F-post g l.step a d b → b ≡ h a d) → l.point ≡ foldl h l.fn.start (take l.d-index l.d-items)
