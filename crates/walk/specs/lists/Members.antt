-- The members of a list that pass a test, a list without one of them, and the list of a vertex. Definitions only.
use Rattle.std.specs.Prelude.{ℕ, zero, suc, Bool, true, false, List, [], ◌∷◌, ◌++◌, length, take, drop, eqb}

-- the members of a list that pass a test, in order, and how many they are
abbrev pub put : Bool → ℕ → List ℕ → List ℕ
put true x l = x ∷ l
put false x l = l

abbrev pub filter : (ℕ → Bool) → List ℕ → List ℕ
filter p [] = []
filter p (x ∷ l) = put (p x) x (filter p l)

abbrev pub count : (ℕ → Bool) → List ℕ → ℕ
count p l = length (filter p l)

-- the list without the member that passes the test after n others that do
abbrev pub cut : Bool → ℕ → ℕ → List ℕ → (ℕ → List ℕ) → List ℕ
cut true zero x l r = l
cut true (suc n) x l r = x ∷ r n
cut false n x l r = x ∷ r n

abbrev pub del : (ℕ → Bool) → ℕ → List ℕ → List ℕ
del p n [] = []
del p n (x ∷ l) = cut (p x) n x l (λ k. del p k l)

-- a list without its use at index i
abbrev pub without : List ℕ → ℕ → List ℕ
without l i = take i l ++ drop (suc i) l

-- ---- the list of a vertex

-- the test whether an end of a use, its front or its back, is a vertex
abbrev pub sits : (ℕ → ℕ) → ℕ → ℕ → Bool
sits end v u = eqb (end u) v

-- "Uses go to their front vertex's list: .. in order": those of l whose front is v
abbrev pub at : (ℕ → ℕ) → ℕ → List ℕ → List ℕ
at front v l = filter (sits front v) l
