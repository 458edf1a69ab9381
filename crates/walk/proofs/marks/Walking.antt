-- The walk of a split, from what its steps left: the marks are those of the definition, the uses are those to be walked, and every number is known.
-- Assumes nothing.
use mathlib.Core.Path.{◌≡◌, refl, ap, sym, ◌∙◌}
use mathlib.Core.Bool.{Bool, true, false, ◌||◌}
use mathlib.Core.List.{List, [], ◌∷◌, ◌++◌, append_assoc}
use Prim.Native.Nat.{ℕ, suc, ◌+◌, ◌-◌, ◌*◌, ◌/◌, ◌≤◌, ◌<◌}
use native.Mathlib.Omega.{arith}
use native.Mathlib.Decide.{dec_lt}
use borrow.Author.Tests.{ltb-true, ltb-false, leb-true, leb-false, ne_eqb, lt-ltb, le-ltb}
use lib.Dec.{eqb, leb, ltb}
use lib.ListN.{length, get_or, take, drop, replicate, length-append, length-drop, length-replicate, get_or-append, get_or-eq_default}
use lib.Seq.{sets, take_at, get_or-append-add, length-take-le}
use Rattle.std.proofs.lemmas.List.{drop-drop}
use Rattle.std.proofs.lemmas.List.Edits.{sets-eq}
use Rattle.compress.specs.Records.{pick}
use Rattle.compress.proofs.Cells.{take_sets}
use Rattle.walk.specs.lists.Ends.{end_in, end_of, front_of, back_of, marked_of, Sound}
use Rattle.walk.specs.Walk.{walk}
use Rattle.walk.specs.Answered.{WalkOutcome, walk_outcome}
use Rattle.walk.specs.marks.Marks.{new_uses, occurs, is_new_edge, marked_by}
use Rattle.walk.specs.marks.Walking.{Walkable, lent_walk}
use Rattle.walk.proofs.marks.Marks.{length_new_uses, get_or_new_uses}

-- an edge past those of the uses does not occur
occurs_none : (e n : ℕ) (l : List ℕ) → n ≤ e → ((k : ℕ) → k < length l → get_or l k 0 / 2 < n) → occurs e l ≡ 0
unfolding occurs
occurs_none e n [] h known = refl
occurs_none e n (u ∷ l) h known =
    let a : eqb (u / 2) e ≡ false = ne_eqb (u / 2) e (λ (p : u / 2 ≡ e). omega (arith, known 0 (omega arith))) in
    rw a (omega (arith, occurs_none e n l h (λ k lt. known (suc k) (omega arith))))

twice : (x : ℕ) → ltb 1 x ≡ leb 2 x
twice x = by (leb 2 x) refl
  where
    by : (b : Bool) → leb 2 x ≡ b → ltb 1 x ≡ b
    by true q = lt-ltb 1 x (omega (arith, leb-true 2 x q))
    by false q = le-ltb 1 x (omega (arith, leb-false 2 x q))

module _ (en : List ℕ) (edges : ℕ) (face rebuilt ds : List ℕ) (pairs : ℕ) (W : Walkable en edges face rebuilt ds pairs) where
  -- ---- the marks
  module _ (n : ℕ) (room : edges + pairs ≤ n) (ms₁ ms₂ : List ℕ) (news : (k : ℕ) → get_or ms₂ k 0 ≡ pick (is_new_edge edges pairs k) 2 (get_or ms₁ k 0))
      (long : length ms₁ ≡ n) (counts : (k : ℕ) → k < n → get_or ms₁ k 0 ≡ occurs k face) where
    counted : (k : ℕ) → get_or ms₁ k 0 ≡ occurs k face
    counted k = by (dec_lt k n)
      where
        by : Dec (k < n) → get_or ms₁ k 0 ≡ occurs k face
        by (yes lt) = counts k lt
        by (no past) =
            get_or-eq_default ms₁ 0 {n = k} (omega (arith, past, long))
            ∙ sym (occurs_none k edges face (omega (arith, past, room)) W.face_known)

    mark_is : (b : Bool) (x : ℕ) → ltb 1 (pick b 2 x) ≡ (b || leb 2 x)
    mark_is true x = refl
    mark_is false x = twice x

    marks_same : (u : ℕ) → marked_of ms₂ u ≡ marked_by face edges pairs u
    unfolding marked_by
    marks_same u = rw (news (u / 2), counted (u / 2)) (mark_is (is_new_edge edges pairs (u / 2)) (occurs (u / 2) face))

    pub marked_same : marked_of ms₂ ≡ marked_by face edges pairs
    marked_same = λ i u. marks_same u i

  -- ---- the uses
  abbrev pub to_walk : List ℕ
  to_walk = rebuilt ++ new_uses edges pairs

  pub length_walk : length to_walk ≡ length rebuilt + pairs * 2
  length_walk = length-append rebuilt (new_uses edges pairs) ∙ rw (length_new_uses edges pairs)

  pub uses_laid : (zs us₁ us₂ : List ℕ) (m : ℕ) → length zs ≡ 1024 → us₁ ≡ rebuilt ++ drop (length rebuilt) zs
      → us₂ ≡ sets us₁ (length rebuilt) (new_uses edges pairs) → m ≡ length rebuilt + pairs * 2 → take m us₂ ≡ to_walk
  uses_laid zs us₁ us₂ m lz e₁ e₂ q =
      let l₁ : length us₁ ≡ 1024 = rw e₁ (length-append rebuilt (drop (length rebuilt) zs) ∙ rw length-drop (omega (arith, W.few))) in
      let t : take (length rebuilt) us₁ ≡ rebuilt = rw e₁ (take_at rebuilt (drop (length rebuilt) zs) (length rebuilt) refl) in
      let p : m ≡ length rebuilt + length (new_uses edges pairs) = q ∙ rw (length_new_uses edges pairs) in
      rw (e₂, p) (take_sets us₁ (new_uses edges pairs) (length rebuilt) (omega (arith, length_new_uses edges pairs, W.few, l₁)) ∙ rw t)

  known : (k : ℕ) → k < length to_walk → get_or to_walk k 0 / 2 < edges + pairs
  known k h = by (dec_lt k (length rebuilt))
    where
      by : Dec (k < length rebuilt) → get_or to_walk k 0 / 2 < edges + pairs
      by (yes lt) = rw (get_or-append rebuilt (new_uses edges pairs) 0 k lt) (omega (arith, W.rebuilt_known k lt))
      by (no past) =
          let j = k - length rebuilt in
          let p : k ≡ length rebuilt + j = omega (arith, past) in
          let lt : j < pairs * 2 = omega (arith, past, length_walk) in
          let q : get_or to_walk k 0 ≡ edges * 2 + j = ap (λ (n : ℕ). get_or to_walk n 0) p ∙ get_or-append-add rebuilt (new_uses edges pairs) j 0 ∙ get_or_new_uses edges pairs j lt in
          rw q (omega arith)

  ends_below : (e j : ℕ) → e < edges + pairs → j < 2 → end_of en ds edges e j < 4096
  unfolding end_of
  ends_below e j h g = by (ltb e edges) refl
    where
      by : (b : Bool) → ltb e edges ≡ b → end_in b en ds edges e j < 4096
      by true q = W.ends e j (ltb-true e edges q) g
      by false q = W.stops ((e - edges) * 2 + j) (omega (arith, ltb-false e edges q))

  pub sound : (ms us : List ℕ) → edges + pairs ≤ length ms → us ≡ to_walk → Sound en ds edges ms us
  sound ms us lm q =
      rw q
      (record {
        few = omega (arith, length_walk, W.few);
        there = λ k h.
            record {
              row = λ lt. omega (arith, W.rows);
              pair = λ ge. omega (arith, known k h, W.paired);
            };
        small = λ k j h g. ends_below (get_or to_walk k 0 / 2) j (known k h) g;
        marks = λ k h. omega (arith, known k h, lm);
      })

  pub walked : (ms us os ls : List ℕ) (o : WalkOutcome) → us ≡ to_walk → marked_of ms ≡ marked_by face edges pairs
      → o ≡ walk_outcome (walk (front_of en ds edges) (back_of en ds edges) (marked_of ms) us) os ls → o ≡ walk_outcome (lent_walk en edges face rebuilt ds pairs) os ls
  unfolding lent_walk
  walked ms us os ls o q m T = rw (q, m) at T

-- The new uses, written behind those to be rebuilt, up to place e, in a table of 1024 zeros.
pub signed_up : (rebuilt us₁ out : List ℕ) (e m k : ℕ) → us₁ ≡ rebuilt ++ drop (length rebuilt) (replicate {A = ℕ} 1024 0) → length rebuilt + k * 2 ≤ 1024
    → e ≡ length rebuilt + k * 2 → ((j : ℕ) → length (take (e - length rebuilt) (drop (length rebuilt) us₁)) ≡ j * 2 → out ≡ new_uses m j)
    → take (length rebuilt) us₁ ++ (out ++ drop (e - length rebuilt) (drop (length rebuilt) us₁)) ≡ sets us₁ (length rebuilt) (new_uses m k)
signed_up rebuilt us₁ out e m k e₁ few q is =
    let n = length rebuilt in
    let w : e - n ≡ k * 2 = omega arith in
    let all : length us₁ ≡ 1024
    = omega (arith, ap length e₁, length-append rebuilt (drop n (replicate {A = ℕ} 1024 0)), length-drop n (replicate {A = ℕ} 1024 0), length-replicate {A = ℕ} 1024 0) in
    let long : length (take (e - n) (drop n us₁)) ≡ k * 2 = rw w (length-take-le (k * 2) (drop n us₁) (omega (arith, all, length-drop n us₁))) in
    let long' = length_new_uses m k in
    rw (is k long, w, sets-eq (new_uses m k) us₁ n (omega (arith, all, long')), long', append_assoc, drop-drop)

-- The same as the code has it: the uses are laid in a table of 1024 zeros.
module _ {en face rebuilt ds : List ℕ} {edges pairs : ℕ} (W : Walkable en edges face rebuilt ds pairs) {us₁ us₂ : List ℕ}
    (e₁ : us₁ ≡ rebuilt ++ drop (length rebuilt) (replicate {A = ℕ} 1024 0))
    (e₂ : us₂ ≡ sets us₁ (length rebuilt) (new_uses edges pairs)) where
  laid : take (length rebuilt + pairs * 2) us₂ ≡ to_walk en edges face rebuilt ds pairs W
  laid = uses_laid en edges face rebuilt ds pairs W (replicate {A = ℕ} 1024 0) us₁ us₂ _ (length-replicate {A = ℕ} 1024 0) e₁ e₂ refl

  -- what the walk asks of its caller
  pub walk_asks : (ms : List ℕ) (n o l : ℕ) → edges + pairs ≤ n → length ms ≡ n
      → (length rebuilt + pairs * 2 ≤ o) × (length rebuilt + pairs * 2 ≤ l)
      → Sound en ds edges ms (take (length rebuilt + pairs * 2) us₂)
      × ((length (take (length rebuilt + pairs * 2) us₂) ≤ o) × (length (take (length rebuilt + pairs * 2) us₂) ≤ l))
  walk_asks ms n o l lm em fits =
      let lw = length_walk en edges face rebuilt ds pairs W in (
        sound en edges face rebuilt ds pairs W ms _ (omega (arith, lm, em)) laid,
        (omega (arith, ap length laid, lw, fits), omega (arith, ap length laid, lw, fits)),
      )

  -- what it leaves
  pub walk_leaves : (n : ℕ) (ms₁ ms₂ os ls : List ℕ) {o : WalkOutcome} → edges + pairs ≤ n
      → ((k : ℕ) → get_or ms₂ k 0 ≡ pick (is_new_edge edges pairs k) 2 (get_or ms₁ k 0))
      → length ms₁ ≡ n → ((k : ℕ) → k < n → get_or ms₁ k 0 ≡ occurs k face)
      → o ≡ walk_outcome (walk (front_of en ds edges) (back_of en ds edges) (marked_of ms₂) (take (length rebuilt + pairs * 2) us₂)) os ls
      → o ≡ walk_outcome (lent_walk en edges face rebuilt ds pairs) os ls
  walk_leaves n ms₁ ms₂ os ls {o} room news long counts T =
      walked en edges face rebuilt ds pairs W ms₂ _ os ls o laid
      (marked_same en edges face rebuilt ds pairs W n room ms₁ ms₂ news long counts) T
