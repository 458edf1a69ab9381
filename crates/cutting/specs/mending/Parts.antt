-- The uses that stand in a wire for one use. Definitions only.
use Rattle.std.specs.Prelude.{List, [], ◌∷◌, ℕ}
use Rattle.cutting.specs.declared.mending.Parts.{Parts}
use Rattle.cutting.specs.declared.mending.Parts.TheVariants.{One, Two}

unfoldable pub uses_of_parts : Parts → List ℕ
uses_of_parts (One a) = a ∷ []
uses_of_parts (Two a b) = a ∷ b ∷ []
