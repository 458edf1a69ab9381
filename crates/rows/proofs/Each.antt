-- The wires of a slice one after the other. Assumes nothing.
use Rattle.std.proofs.Common.{◌≡◌, ℕ, ◌+◌, ◌≤◌, ◌<◌, Bool, true, false, zero, suc, List, [], ◌∷◌, length, get_or, take, drop, min, leb, refl, sym, ap, subst, ◌∙◌}
use Rattle.std.proofs.Common.{arith}
use Rattle.std.specs.Bool.{⊤}
use borrow.Author.Tests.{leb-true, leb-false}
use lib.ListN.{length-drop, drop_of_length-le}
use lib.Seq.{take_all, length-take-le, get_or-take, get_or-drop}
use Rattle.compress.specs.Wires.{total, wires_of}

pub none_left : (us ls : List ℕ) → length ls ≡ 0 → wires_of us ls ≡ []
unfolding wires_of
none_left us [] e = refl
none_left us (n ∷ ls) e = absurd (omega arith)

-- a front of n, or of all where there are fewer
front_same : (us : List ℕ) (n k : ℕ) → k ≡ min (length us) n → (take n us ≡ take k us) × (drop n us ≡ drop k us)
front_same us n k e = by (leb n (length us)) refl
  where
    by : (b : Bool) → leb n (length us) ≡ b → (take n us ≡ take k us) × (drop n us ≡ drop k us)
    by true p =
        let q : n ≡ k = omega (arith, leb-true n (length us) p) in
        (ap (λ (m : ℕ). take m us) q, ap (λ (m : ℕ). drop m us) q)
    by false p =
        let l : length us < n = leb-false n (length us) p in
        (take_all n us (omega arith) ∙ sym (take_all k us (omega arith)), drop_of_length-le us {i = n} (omega arith) ∙ sym (drop_of_length-le us {i = k} (omega arith)))

-- the first wire has as many uses as are said, or as are left
pub first_of : (us ls rest : List ℕ) (n k : ℕ) → ls ≡ n ∷ rest → k ≡ min (length us) n → wires_of us ls ≡ take k us ∷ wires_of (drop k us) rest
unfolding wires_of
first_of us ls rest n k e m = let p = front_same us n k m in rw (e, p.0, p.1) refl

pub fewer : {A : Type 0} (xs ys : List A) (x : A) → xs ≡ x ∷ ys → length ys < length xs
fewer xs ys x e = rw e (omega arith)

-- ---- what holds of every wire
abbrev pub AllOf : (List ℕ → Type 0) → List (List ℕ) → Type 0
AllOf P [] = ⊤
AllOf P (w ∷ ws) = P w × AllOf P ws

pub first_holds : (P : List ℕ → Type 0) (ws rest : List (List ℕ)) (w : List ℕ) → ws ≡ w ∷ rest → AllOf P ws → P w × AllOf P rest
first_holds P ws rest w e a = subst (AllOf P) e a

pub holds_at : (P : List ℕ → Type 0) (ws : List (List ℕ)) (k : ℕ) → k < length ws → AllOf P ws → P (get_or ws k [])
holds_at P [] k h a = absurd (omega arith)
holds_at P (w ∷ ws) zero h a = a.0
holds_at P (w ∷ ws) (suc k) h a = holds_at P ws k (omega arith) a.1

-- Wires whose uses all have a property, and are m at most: so has each wire.
pub all_wires : (Q : ℕ → Type 0) (us ls : List ℕ) (m : ℕ) → total ls ≤ length us → total ls ≤ m → ((k : ℕ) → k < total ls → Q (get_or us k 0))
    → AllOf (λ w. (length w ≤ m) × ((k : ℕ) → k < length w → Q (get_or w k 0))) (wires_of us ls)
unfolding total wires_of
all_wires Q us [] m fit few q = tt
all_wires Q us (n ∷ ls) m fit few q =
    let l : length (take n us) ≡ n = length-take-le n us (omega arith) in (
      (omega arith, λ k h. rw (get_or-take n us k 0 (omega arith)) (q k (omega arith))),
      all_wires Q (drop n us) ls m (rw length-drop (omega arith)) (omega arith) (λ k h. rw (get_or-drop n us k 0) (q (n + k) (omega arith))),
    )
