-- Worked examples of the search. Assumes nothing.
use Rattle.std.specs.Prelude.{◌≡◌, refl, List, [], ◌∷◌, ℕ, None}
use Rattle.compress.specs.Worked.{k9_wire}
use Rattle.rows.specs.wires.Turn.{turned}
use Rattle.non_simple.specs.loops.Loop.{nothing, insert, pair, searched, first_repeat}

-- the wire of K6: 0+ 1+ 2+
pub k6 : first_repeat 0 (0 ∷ 2 ∷ 4 ∷ []) ≡ None
unfolding nothing insert searched first_repeat
k6 = refl

-- the wire of K7: 0+ 1+ 0-
pub k7 : first_repeat 0 (0 ∷ 2 ∷ 1 ∷ []) ≡ pair 0 2
unfolding nothing insert searched first_repeat
k7 = refl

-- the wire of K8: 0+ 0- 1+
pub k8 : first_repeat 0 (0 ∷ 1 ∷ 2 ∷ []) ≡ pair 0 1
unfolding nothing insert searched first_repeat
k8 = refl

-- the wire of K9: 1+ 2+ 0+ 3+ 4+ 0-
pub k9_first : first_repeat 0 k9_wire ≡ pair 2 5
unfolding nothing insert searched first_repeat
k9_first = refl

-- turned so that the earlier place is 0, it has no second pair past the later place
pub k9_second : first_repeat 4 (turned 2 k9_wire) ≡ None
unfolding nothing insert searched first_repeat turned
k9_second = refl

-- 0+ 1+ 0- 2+ 3+ 0+, whose edge 0 stands at the places 0, 2 and 5
abbrev pub thrice : List ℕ
thrice = 0 ∷ 2 ∷ 1 ∷ 4 ∷ 6 ∷ 0 ∷ []

pub thrice_from_0 : first_repeat 0 thrice ≡ pair 0 2
unfolding nothing insert searched first_repeat
thrice_from_0 = refl

pub thrice_from_1 : first_repeat 1 thrice ≡ pair 2 5
unfolding nothing insert searched first_repeat
thrice_from_1 = refl

pub thrice_from_3 : first_repeat 3 thrice ≡ None
unfolding nothing insert searched first_repeat
thrice_from_3 = refl
