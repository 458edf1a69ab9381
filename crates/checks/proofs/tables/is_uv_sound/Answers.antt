use mathlib.Core.Path.{sym, ◌∙◌}
use Rattle.std.proofs.lemmas.Bool.{and_parts}
use Rattle.checks.proofs.Sound.{uv_sound}
use Rattle.checks.proofs.tables.is_uv_sound.Goals as goal

pub returns : goal.returns
returns c = λ e.
    let p = and_parts c.is_sized.result c.is_sized-2.result e in
    uv_sound _ (sym c.is_sized.ensures ∙ p.0) (sym c.is_sized-2.ensures ∙ p.1)
