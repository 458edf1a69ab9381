-- What is left of a walk, said without its record: with a wire under way, and between two wires. Each step of it.
-- Assumes nothing.
use Prim.Native.Nat.{ℕ, suc, ◌+◌, ◌-◌, ◌≤◌, ◌<◌}
use native.Mathlib.Omega.{arith}
use native.Mathlib.Numerals.{add-one}
use mathlib.Core.Path.{◌≡◌, refl, sym, ap, ◌∙◌}
use mathlib.Core.Logic.{◌≢◌}
use mathlib.Core.Bool.{Bool, true}
use mathlib.Core.List.{List, [], ◌∷◌, ◌++◌, append-nil, append_assoc}
use lib.ListN.{length, take, drop, get_or, set, take-append-drop}
use lib.Seq.{length-take-le, take-suc-set, take-take, drop-append-le, drop_at}
use borrow.Author.Tests.{eq-eqb}
use Rattle.compress.specs.Wires.{uses_of}
use Rattle.walk.specs.Walk.{Answer, wires, refused, Move, refuse, along, State, least, begin, begun, choose, turn, move, run, walk}
use Rattle.walk.specs.lists.Members.{count, del, sits, at}
use Rattle.walk.proofs.Counts.{took, count_all}
use Rattle.walk.proofs.Buckets.{least_is, move_on}
use Rattle.walk.proofs.lists.Chains.{last_is}

module _ (front back : ℕ → ℕ) (marked : ℕ → Bool) where
  -- from s a wire is under way, u its last use
  unfoldable pub going : ℕ → ℕ → ℕ → List ℕ → List ℕ → List (List ℕ) → Answer
  going k s u rest wire ws =
      let st : State = record { start = s; last = u; rest = rest; wire = wire; done = ws } in
      run front back marked k (move front back marked st) st

  -- a wire is to begin, if there are uses left
  unfoldable pub after : ℕ → List ℕ → List (List ℕ) → Answer
  after k [] ws = wires ws
  after k (x ∷ l) ws = let first = begun front (least front x l) (x ∷ l) ws in run front back marked k (move front back marked first) first

  pub after_walk : (us : List ℕ) → after (length us) us [] ≡ walk front back marked us
  unfolding after walk
  after_walk [] = refl
  after_walk (x ∷ l) = refl

  pub after_nil : (k : ℕ) (l : List ℕ) (ws : List (List ℕ)) → l ≡ [] → after k l ws ≡ wires ws
  unfolding after
  after_nil k l ws e = rw e

  module _ (s u : ℕ) (rest wire : List ℕ) (ws : List (List ℕ)) where
    st : State
    st = record { start = s; last = u; rest = rest; wire = wire; done = ws }

    pub going_refused : (k c : ℕ) (b : List ℕ) → back u ≢ s → at front (back u) rest ≡ b → choose marked (marked u) b ≡ refuse c → going (suc k) s u rest wire ws ≡ refused c
    unfolding going run st
    going_refused k c b d e q = ap (λ (m : Move). run front back marked (suc k) m st) (move_on front back marked st d b e ∙ q)

    pub going_along : (k n : ℕ) (b : List ℕ) → back u ≢ s → at front (back u) rest ≡ b → choose marked (marked u) b ≡ along n
        → going (suc k) s u rest wire ws ≡ going k s (get_or b n 0) (del (sits front (back u)) n rest) (wire ++ (get_or b n 0 ∷ [])) ws
    unfolding going run st
    going_along k n b d e q =
        ap (λ (m : Move). run front back marked (suc k) m st) (move_on front back marked st d b e ∙ q)
        ∙ ap (λ (l : List ℕ). going k s (get_or l n 0) (del (sits front (back u)) n rest) (wire ++ (get_or l n 0 ∷ [])) ws) e

    pub going_closed : (k : ℕ) → back u ≡ s → going (suc k) s u rest wire ws ≡ after k rest (ws ++ (wire ∷ []))
    unfolding going run after st
    going_closed k e = ap (λ (t : Bool). run front back marked (suc k) (turn front back marked t st) st) (eq-eqb (back u) s e) ∙ go rest
      where
        go : (l : List ℕ) → run front back marked (suc k) (begin front l) (record { start = s; last = u; rest = l; wire = wire; done = ws }) ≡ after k l (ws ++ (wire ∷ []))
        go [] = refl
        go (x ∷ l) = refl

  pub after_fresh : (k v u : ℕ) (rest m : List ℕ) (ws : List (List ℕ)) → ((w : ℕ) → w < v → at front w rest ≡ []) → at front v rest ≡ m ++ (u ∷ [])
      → after k rest ws ≡ going k v u (del (sits front v) (length (at front v rest) - 1) rest) (u ∷ []) ws
  unfolding after going
  after_fresh k v u [] m ws low e = absurd (omega (arith, ap length e, length_snoc m))
    where
      length_snoc : (m : List ℕ) → 0 < length (m ++ (u ∷ []))
      length_snoc [] = omega arith
      length_snoc (x ∷ m) = omega arith
  after_fresh k v u (x ∷ l) m ws low e =
      let some : 0 < length (at front v (x ∷ l)) = rw e (length_snoc m) in
      ap (λ (w : ℕ). run front back marked k (move front back marked (begun front w (x ∷ l) ws)) (begun front w (x ∷ l) ws)) (least_is front v x l low some)
      ∙ ap (λ (y : ℕ). going k v y (del (sits front v) (length (at front v (x ∷ l)) - 1) (x ∷ l)) (y ∷ []) ws) (ap (λ (b : List ℕ). get_or b (length b - 1) 0) e ∙ last_is m u)
    where
      length_snoc : (m : List ℕ) → 0 < length (m ++ (u ∷ []))
      length_snoc [] = omega arith
      length_snoc (x ∷ m) = omega arith

-- one use fewer
pub shorter : (p : ℕ → Bool) (l : List ℕ) (n : ℕ) → n < count p l → length l ≡ suc (length (del p n l))
shorter p l n h = omega (arith, took p (λ _. true) l n h, count_all l, count_all (del p n l))

-- ---- the table of the uses made, and that of the wires' lengths

module _ (made : List ℕ) (from taken u : ℕ) (le : from ≤ taken) (lt : taken < length made) where
  more : take (taken + 1) (set made taken u) ≡ take taken made ++ (u ∷ [])
  more = ap (λ (k : ℕ). take k (set made taken u)) (add-one taken) ∙ take-suc-set made taken u lt

  pub wire_more : drop from (take (taken + 1) (set made taken u)) ≡ drop from (take taken made) ++ (u ∷ [])
  wire_more = ap (drop from) more ∙ drop-append-le from (take taken made) (u ∷ []) (omega (arith, length-take-le taken made (omega arith)))

  pub wire_first : drop taken (take (taken + 1) (set made taken u)) ≡ u ∷ []
  wire_first = ap (drop taken) more ∙ drop_at (take taken made) (u ∷ []) taken (length-take-le taken made (omega arith))

pub wire_joined : (made : List ℕ) (from taken : ℕ) → from ≤ taken → take from made ++ drop from (take taken made) ≡ take taken made
wire_joined made from taken le = ap (λ (l : List ℕ). l ++ drop from (take taken made)) (sym (take-take from taken made le)) ∙ take-append-drop from (take taken made)

pub uses_snoc : (ws : List (List ℕ)) (w : List ℕ) → uses_of (ws ++ (w ∷ [])) ≡ uses_of ws ++ w
unfolding uses_of
uses_snoc [] w = append-nil w
uses_snoc (v ∷ ws) w = ap (λ (l : List ℕ). v ++ l) (uses_snoc ws w) ∙ sym (append_assoc v (uses_of ws) w)
