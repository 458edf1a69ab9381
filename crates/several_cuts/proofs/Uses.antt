-- A wire whose uses are replaced by rows of pieces: it leads where it led, and each piece stands as often, in each direction, as its mother stood. Of any
-- edges that are cut into rows. Assumes nothing.
use mathlib.Core.Path.{◌≡◌, refl, ap, sym, ◌∙◌}
use mathlib.Core.Bool.{Bool, true, false}
use mathlib.Core.List.{List, [], ◌∷◌, ◌++◌, map}
use Prim.Native.Nat.{ℕ, suc, ◌+◌, ◌*◌, ◌/◌, ◌%◌, ◌<◌}
use native.Mathlib.Omega.{arith}
use borrow.Author.Tests.{eqb-true, eqb-false, eq-eqb, ne_eqb}
use lib.Dec.{eqb}
use lib.ListN.{length, get_or}
use Rattle.std.specs.Prelude.{cond, count_by}
use Rattle.std.proofs.lemmas.List.Sums.{sum_by-cons, sum_by-append}
use Rattle.compress.specs.declared.Edge.{Edge}
use Rattle.compress.specs.Records.{pick, forward, front_of, back_of, front_at, back_at}
use Rattle.rows.specs.wires.Connected.{replaced}
use Rattle.rows.proofs.wires.Replaced.{Leads, leads_none, leads_first, leads_append}
use Rattle.cutting.proofs.Keeping.{front_first, back_first, front_second, back_second}
use Rattle.pieces.specs.Pieces.{chain_forward, chain_backwards, uses_for}
use Rattle.pieces.proofs.Rows.{use_forward, use_reversed, none_forward, none_backwards, forward_first, backwards_last}
use Rattle.several_cuts.specs.Mothers.{mother_use, RunsAlong}

-- ---- what leads somewhere

module _ (es : ℕ → Edge) where
  abbrev f : ℕ → ℕ
  f = front_at es

  abbrev b : ℕ → ℕ
  b = back_at es

  pub forward_leads : (ps : List ℕ) (a z : ℕ) → RunsAlong (map es ps) a z → Leads f b a (chain_forward ps) z
  forward_leads [] a z h = rw none_forward (leads_none f b a z h)
  forward_leads (p ∷ ps) a z h =
      rw (forward_first p ps) (leads_first f b (p * 2) (chain_forward ps) a z (front_first es p ∙ h.0) (rw (back_first es p) (forward_leads ps (es p).back z h.1)))

  pub backwards_lead : (ps : List ℕ) (a z : ℕ) → RunsAlong (map es ps) a z → Leads f b z (chain_backwards ps) a
  backwards_lead [] a z h = rw none_backwards (leads_none f b z a (sym h))
  backwards_lead (p ∷ ps) a z h =
      let last : Leads f b (es p).back ((p * 2 + 1) ∷ []) a
      = leads_first f b (p * 2 + 1) [] (es p).back a (front_second es p) (leads_none f b (b (p * 2 + 1)) a (back_second es p ∙ h.0)) in
      rw (backwards_last p ps) (leads_append f b (chain_backwards ps) ((p * 2 + 1) ∷ []) z (es p).back a (backwards_lead ps (es p).back z h.1) last)

-- ---- pieces counted

abbrev bit : Bool → ℕ
bit t = cond t 1 0

pub count_first : (q : ℕ → Bool) (x : ℕ) (l : List ℕ) → count_by q (x ∷ l) ≡ bit (q x) + count_by q l
count_first q x l = sum_by-cons (λ (y : ℕ). cond (q y) 1 0) x l

count_both : (q : ℕ → Bool) (xs ys : List ℕ) → count_by q (xs ++ ys) ≡ count_by q xs + count_by q ys
count_both q xs ys = sum_by-append (λ (y : ℕ). cond (q y) 1 0) xs ys

pub same_bit : (a b c d : ℕ) → (a ≡ b → c ≡ d) → (c ≡ d → a ≡ b) → bit (eqb a b) ≡ bit (eqb c d)
same_bit a b c d p q = go (eqb a b) refl
  where
    go : (t : Bool) → eqb a b ≡ t → bit t ≡ bit (eqb c d)
    go true e = ap bit (sym (eq-eqb c d (p (eqb-true a b e))))
    go false e = ap bit (sym (ne_eqb c d (λ h. eqb-false a b e (q h))))

pub no_bit : (a b : ℕ) → (a ≡ b → ⊥) → bit (eqb a b) ≡ 0
no_bit a b h = ap bit (ne_eqb a b h)

count_forward : (u : ℕ) (t : Bool) → forward u ≡ t → (ps : List ℕ) → count_by (eqb u) (chain_forward ps) ≡ pick t (count_by (eqb (u / 2)) ps) 0
count_forward u true e [] = rw none_forward refl
count_forward u false e [] = rw none_forward refl
count_forward u true e (p ∷ ps) =
    let x = use_forward u e in
    let s : bit (eqb u (p * 2)) ≡ bit (eqb (u / 2) p) = same_bit u (p * 2) (u / 2) p (λ (h : u ≡ p * 2). omega arith) (λ (h : u / 2 ≡ p). omega arith) in
    rw (forward_first p ps, count_first (eqb u) (p * 2) (chain_forward ps), count_first (eqb (u / 2)) p ps, count_forward u true e ps, s) refl
count_forward u false e (p ∷ ps) =
    let x = use_reversed u e in
    let s : bit (eqb u (p * 2)) ≡ 0 = no_bit u (p * 2) (λ (h : u ≡ p * 2). omega arith) in
    rw (forward_first p ps, count_first (eqb u) (p * 2) (chain_forward ps), count_forward u false e ps, s) refl

count_backwards : (u : ℕ) (t : Bool) → forward u ≡ t → (ps : List ℕ) → count_by (eqb u) (chain_backwards ps) ≡ pick t 0 (count_by (eqb (u / 2)) ps)
count_backwards u true e [] = rw none_backwards refl
count_backwards u false e [] = rw none_backwards refl
count_backwards u true e (p ∷ ps) =
    let x = use_forward u e in
    let s : bit (eqb u (p * 2 + 1)) ≡ 0 = no_bit u (p * 2 + 1) (λ (h : u ≡ p * 2 + 1). omega arith) in
    rw (backwards_last p ps, count_both (eqb u) (chain_backwards ps) ((p * 2 + 1) ∷ []), count_first (eqb u) (p * 2 + 1) [], count_backwards u true e ps, s) refl
count_backwards u false e (p ∷ ps) =
    let x = use_reversed u e in
    let s : bit (eqb u (p * 2 + 1)) ≡ bit (eqb (u / 2) p)
    = same_bit u (p * 2 + 1) (u / 2) p (λ (h : u ≡ p * 2 + 1). omega arith) (λ (h : u / 2 ≡ p). omega arith) in
    rw (backwards_last p ps, count_both (eqb u) (chain_backwards ps) ((p * 2 + 1) ∷ []), count_first (eqb u) (p * 2 + 1) [], count_first (eqb (u / 2)) p ps, count_backwards u false e ps, s)
    (omega arith)

-- ---- edges that are cut into rows

-- Of n edges `es` there are n' edges `es'` afterwards: edge e becomes the pieces `parts e`, and `mother` says whose piece each one is.
pub record Rows (n n' : ℕ) (es es' : ℕ → Edge) (parts : ℕ → List ℕ) (mother : ℕ → ℕ) : Type 0 where
  pub along : (e : ℕ) → e < n → RunsAlong (map es' (parts e)) (es e).front (es e).back
  pub each : (e p : ℕ) → e < n → p < n' → count_by (eqb p) (parts e) ≡ cond (eqb (mother p) e) 1 0

module _ (n n' : ℕ) (es es' : ℕ → Edge) (parts : ℕ → List ℕ) (mother : ℕ → ℕ) (C : Rows n n' es es' parts mother) where
  -- what stands for a use leads from its front to its back
  pub use_leads : (u : ℕ) → u / 2 < n → Leads (front_at es') (back_at es') (front_at es u) (uses_for parts u) (back_at es u)
  unfolding uses_for front_at front_of back_at back_of
  use_leads u lt = by (forward u)
    where
      by : (t : Bool) → Leads (front_at es') (back_at es') (pick t (es (u / 2)).front (es (u / 2)).back) (pick t (chain_forward (parts (u / 2))) (chain_backwards (parts (u / 2)))) (pick t (es (u / 2)).back (es (u / 2)).front)
      by true = forward_leads es' (parts (u / 2)) (es (u / 2)).front (es (u / 2)).back (C.along (u / 2) lt)
      by false = backwards_lead es' (parts (u / 2)) (es (u / 2)).front (es (u / 2)).back (C.along (u / 2) lt)

  -- it has a piece once, in its own direction, where the use is of the piece's mother
  use_tally : (u x : ℕ) → u / 2 < n' → x / 2 < n → count_by (eqb u) (uses_for parts x) ≡ bit (eqb (mother_use mother u) x)
  unfolding uses_for mother_use
  use_tally u x hu hx = by (forward x) (forward u) refl refl
    where
      told : count_by (eqb (u / 2)) (parts (x / 2)) ≡ bit (eqb (mother (u / 2)) (x / 2))
      told = C.each (x / 2) (u / 2) hx hu

      by : (s t : Bool) → forward x ≡ s → forward u ≡ t
          → count_by (eqb u) (pick s (chain_forward (parts (x / 2))) (chain_backwards (parts (x / 2)))) ≡ bit (eqb (mother (u / 2) * 2 + u % 2) x)
      by true true p q =
          let a = use_forward x p in
          let c = use_forward u q in
          count_forward u true q (parts (x / 2)) ∙ told
          ∙ same_bit (mother (u / 2)) (x / 2) (mother (u / 2) * 2 + u % 2) x (λ (h : mother (u / 2) ≡ x / 2). omega arith) (λ (h : mother (u / 2) * 2 + u % 2 ≡ x). omega arith)
      by true false p q =
          let a = use_forward x p in
          let c = use_reversed u q in
          count_forward u false q (parts (x / 2)) ∙ sym (no_bit (mother (u / 2) * 2 + u % 2) x (λ (h : mother (u / 2) * 2 + u % 2 ≡ x). omega arith))
      by false true p q =
          let a = use_reversed x p in
          let c = use_forward u q in
          count_backwards u true q (parts (x / 2)) ∙ sym (no_bit (mother (u / 2) * 2 + u % 2) x (λ (h : mother (u / 2) * 2 + u % 2 ≡ x). omega arith))
      by false false p q =
          let a = use_reversed x p in
          let c = use_reversed u q in
          count_backwards u false q (parts (x / 2)) ∙ told
          ∙ same_bit (mother (u / 2)) (x / 2) (mother (u / 2) * 2 + u % 2) x (λ (h : mother (u / 2) ≡ x / 2). omega arith) (λ (h : mother (u / 2) * 2 + u % 2 ≡ x). omega arith)

  pub wire_tally : (u : ℕ) → u / 2 < n' → (w : List ℕ) → ((k : ℕ) → k < length w → get_or w k 0 / 2 < n)
      → count_by (eqb u) (replaced (uses_for parts) w) ≡ count_by (eqb (mother_use mother u)) w
  unfolding replaced
  wire_tally u hu [] h = refl
  wire_tally u hu (x ∷ w) h =
      rw (count_both (eqb u) (uses_for parts x) (replaced (uses_for parts) w), use_tally u x hu (h 0 (omega arith)), wire_tally u hu w (λ k g. h (suc k) (omega arith)), count_first (eqb (mother_use mother u)) x w)
      refl
