-- The total of lengths is std's sum.
-- Assumes nothing.
use Rattle.std.proofs.Common.{◌≡◌, refl, ap, sym, ◌∙◌, List, [], ◌∷◌, ℕ, ◌+◌}
use Rattle.std.specs.Prelude.{sum}
use Rattle.std.proofs.lemmas.List.Sums.{sum_by-cons}
use Rattle.compress.specs.Wires.{total}

pub total_is_sum : (ns : List ℕ) → total ns ≡ sum ns
unfolding total
total_is_sum [] = refl
total_is_sum (n ∷ ns) = ap (λ m. n + m) (total_is_sum ns) ∙ sym (sum_by-cons (λ m. m) n ns)
