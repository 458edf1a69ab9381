use mathlib.Core.Path.{sym, ◌∙◌}
use Rattle.checks.proofs.Sound.{table_passed}
use Rattle.checks.proofs.tables.table.Goals as goal

pub returns-then-are_sound : goal.returns-then-are_sound
returns-then-are_sound g c =
    λ f s t.
    table_passed g.R.Row.NUMBERS g.R.Row.FLOATS f _ _ _ (sym c.fits.ensures ∙ c.if-not-fits.false) (λ i h. s i h (c.are_sound.ensures.yes c.if-are_sound.true i h))
