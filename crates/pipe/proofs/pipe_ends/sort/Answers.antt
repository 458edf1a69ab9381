use Rattle.std.proofs.Common.{rules, ◌≡◌, [], ◌∷◌}
use Rattle.std.specs.Cmp.Lexicographic.{same_text}
use Rattle.pipe.proofs.pipe_ends.sort.Goals as goal

pub returns-then-eq : goal.returns-then-eq
returns-then-eq g c =
    let opens : c.sort_wires.new.opens ≡ 0 ∷ 1 ∷ [] = same_text _ _ c.if-eq.ensures in
    (c.in_ok-count.count, c.sort_wires.new.closed, search rules)
