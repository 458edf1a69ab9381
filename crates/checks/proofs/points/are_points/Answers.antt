use Rattle.std.proofs.Common.{rules}
use mathlib.Core.Path.{sym, ◌∙◌}
use mathlib.Core.Bool.{true≢false, false≢true}
use Rattle.checks.proofs.points.Given.{points_tested}
use Rattle.checks.proofs.points.are_points.Goals as goal

pub returns-then-not-fits : goal.returns-then-not-fits
returns-then-not-fits c =
    points_tested _ _ _ _ (λ e. absurd (false≢true e)) (λ e q. absurd (true≢false (sym q ∙ (sym c.fits.ensures ∙ c.if-not-fits.true))))

pub returns : goal.returns
returns c =
    let told = c.are_sound.ensures in
    points_tested _ _ _ _
    (λ e. (sym c.fits.ensures ∙ c.if-not-fits.false, λ i h. let p = told.yes e i h in search rules))
    (λ e q. let n = told.no e in let p = n.2 in (n.0, n.1, search rules))
