-- The rows of numbers of a table of edges, taken one after the other.
-- Assumes nothing.
use Rattle.std.proofs.Common.{ℕ, zero, suc, ◌+◌, ◌*◌, ◌/◌, ◌<◌, ◌≤◌, ◌≡◌, ◌∙◌, List, [], ◌∷◌, ◌++◌, length, get_or, take, drop, arith, ap, refl, subst, length-append}
use Rattle.std.specs.Prelude.{Some, None}
use Rattle.std.specs.Slice.Iter.{chunks_exact_rest, chunks_exact_size, chunks_exact_steps}
use Rattle.std.specs.List.{enumerate_from}
use Rattle.std.proofs.Math.Seq.{take-append_seam, drop-append_seam}
use Rattle.std.proofs.lemmas.List.{get_or-drop, get_or-take, length-take-le, drop-drop}
use Rattle.std.proofs.lemmas.List.FromFn.{length-enumerate_from, get_or-enumerate_from}
use Rattle.std.proofs.lemmas.Iterator.{YieldsList}
use Rattle.std.proofs.lemmas.Iterator.Splits.{YieldsList-from_shown_while}
use Rattle.std.specs.declared.slice.ChunksExact.{ChunksExact}
use denote.Ref.{Bor}
use Rattle.compress.specs.Rows.{numbers_per_edge}

-- the first n rows
unfoldable pub number_rows : ℕ → List ℕ → List (List ℕ)
number_rows zero xs = []
number_rows (suc n) xs = take numbers_per_edge xs ∷ number_rows n (drop numbers_per_edge xs)

abbrev left : ChunksExact ℕ → List (List ℕ)
left s = number_rows (length (chunks_exact_rest s) / numbers_per_edge) (chunks_exact_rest s)

number_rows_first : (x rest : List ℕ) → length x ≡ numbers_per_edge → number_rows (length (x ++ rest) / numbers_per_edge) (x ++ rest) ≡ x ∷ number_rows (length rest / numbers_per_edge) rest
unfolding number_rows
number_rows_first x rest width =
    let n : length (x ++ rest) / numbers_per_edge ≡ suc (length rest / numbers_per_edge) = omega (arith, length-append x rest) in
    let t : take numbers_per_edge (x ++ rest) ≡ x = rw width at (take-append_seam x rest) in
    let d : drop numbers_per_edge (x ++ rest) ≡ rest = rw width at (drop-append_seam x rest) in
    rw (n, t, d)

pub yields_rows : (s : ChunksExact ℕ) (xs : List ℕ) → chunks_exact_rest s ≡ xs → chunks_exact_size s ≡ numbers_per_edge → YieldsList (chunks_exact_steps {A = ℕ}) (λ y. y.now) s (number_rows (length xs / numbers_per_edge) xs)
unfolding number_rows
yields_rows s xs e z =
    subst (λ (l : List ℕ). YieldsList (chunks_exact_steps {A = ℕ}) (λ (y : Bor (List ℕ)). y.now) s (number_rows (length l / numbers_per_edge) l)) e
    (YieldsList-from_shown_while (chunks_exact_steps {A = ℕ}) (λ (y : Bor (List ℕ)). y.now) left (λ (s : ChunksExact ℕ). chunks_exact_size s ≡ numbers_per_edge) none some s z)
  where
    none : (s t : ChunksExact ℕ) → chunks_exact_size s ≡ numbers_per_edge → chunks_exact_steps s None t → length (left s) ≡ 0
    none s t z h =
        let n : length (chunks_exact_rest s) / numbers_per_edge ≡ 0 = omega (arith, h.1.0, z) in
        rw n refl

    some : (s : ChunksExact ℕ) (x : Bor (List ℕ)) (t : ChunksExact ℕ) → chunks_exact_size s ≡ numbers_per_edge → chunks_exact_steps s (Some x) t → (chunks_exact_size t ≡ numbers_per_edge) × (left s ≡ x.now ∷ left t)
    some s x t z h = (h.0 ∙ z, rw h.1.0 (number_rows_first x.now (chunks_exact_rest t) (h.1.1 ∙ z)))

length_number_rows : (n : ℕ) (xs : List ℕ) → length (number_rows n xs) ≡ n
unfolding number_rows
length_number_rows zero xs = refl
length_number_rows (suc n) xs = ap suc (length_number_rows n (drop numbers_per_edge xs))

number_row_at : (n : ℕ) (xs : List ℕ) (k : ℕ) (d : List ℕ) → k < n → get_or (number_rows n xs) k d ≡ take numbers_per_edge (drop (k * numbers_per_edge) xs)
unfolding number_rows
number_row_at zero xs k d h = absurd (omega arith)
number_row_at (suc n) xs zero d h = refl
number_row_at (suc n) xs (suc k) d h =
    let e : numbers_per_edge + k * numbers_per_edge ≡ suc k * numbers_per_edge = omega arith in
    number_row_at n (drop numbers_per_edge xs) k d (omega arith) ∙ ap (take numbers_per_edge) (drop-drop (k * numbers_per_edge) numbers_per_edge xs ∙ ap (λ (j : ℕ). drop j xs) e)

-- the first rows of a table, each with its number
abbrev pub numbered : List ℕ → ℕ → List (ℕ × List ℕ)
numbered ns count = enumerate_from 0 (number_rows (length (take (count * numbers_per_edge) ns) / numbers_per_edge) (take (count * numbers_per_edge) ns))

rows_count : (ns : List ℕ) (count : ℕ) → count * numbers_per_edge ≤ length ns → length (take (count * numbers_per_edge) ns) / numbers_per_edge ≡ count
rows_count ns count room = omega (arith, length-take-le (count * numbers_per_edge) ns room)

pub numbered_length : (ns : List ℕ) (count : ℕ) → count * numbers_per_edge ≤ length ns → length (numbered ns count) ≡ count
numbered_length ns count room =
    let some = take (count * numbers_per_edge) ns in
    length-enumerate_from 0 (number_rows (length some / numbers_per_edge) some) ∙ length_number_rows (length some / numbers_per_edge) some ∙ rows_count ns count room

-- the item of turn k
pub record NumberRow (ns : List ℕ) (count k i : ℕ) (row : List ℕ) : Type 0 where
  pub inside : k < count
  pub place_is : i ≡ k
  pub first : get_or row 0 0 ≡ get_or ns (k * numbers_per_edge) 0
  pub second : get_or row 1 0 ≡ get_or ns (k * numbers_per_edge + 1) 0

pub row_item : (ns : List ℕ) (count k : ℕ) (p : ℕ × List ℕ) → count * numbers_per_edge ≤ length ns → (k < length (numbered ns count)) × (p ≡ get_or (numbered ns count) k p) → NumberRow ns count k p.0 p.1
row_item ns count k p room h =
    let some = take (count * numbers_per_edge) ns in
    let n = length some / numbers_per_edge in
    let lt : k < count = omega (arith, h.0, numbered_length ns count room) in
    let below : k < n = omega (arith, rows_count ns count room) in
    let z : 0 + k ≡ k = omega arith in
    let e : p ≡ (0 + k, get_or (number_rows n some) k p.1) = h.1 ∙ get_or-enumerate_from 0 (number_rows n some) k p (omega (arith, length_number_rows n some)) in
    let row : p.1 ≡ take numbers_per_edge (drop (k * numbers_per_edge) some) = ap (λ (q : ℕ × List ℕ). q.1) e ∙ number_row_at n some k p.1 below in
    let cell : (j : ℕ) → j < numbers_per_edge → get_or p.1 j 0 ≡ get_or ns (k * numbers_per_edge + j) 0
    = λ j g.
    ap (λ (l : List ℕ). get_or l j 0) row ∙ get_or-take numbers_per_edge (drop (k * numbers_per_edge) some) j 0 g ∙ get_or-drop (k * numbers_per_edge) some j 0
    ∙ get_or-take (count * numbers_per_edge) ns (k * numbers_per_edge + j) 0 (omega arith) in
    let z' : k * numbers_per_edge + 0 ≡ k * numbers_per_edge = omega arith in
    record {
      inside = lt;
      place_is = ap (λ (q : ℕ × List ℕ). q.0) e ∙ z;
      first = cell 0 (omega arith) ∙ ap (λ (j : ℕ). get_or ns j 0) z';
      second = cell 1 (omega arith);
    }
