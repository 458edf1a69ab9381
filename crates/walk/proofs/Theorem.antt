-- What is claimed of the walk holds. Assumes nothing.
use Prim.Native.Nat.{ℕ, zero, suc, ◌+◌, ◌-◌, ◌≤◌, ◌<◌}
use native.Mathlib.Omega.{arith}
use native.Mathlib.Nat.{not-suc-le-zero, eq-or-lt_of_le}
use mathlib.Core.Path.{◌≡◌, refl, ap, sym, subst, ◌∙◌}
use mathlib.Core.Logic.{◌≢◌, ◌⊎◌, inl, inr, ⊎_elim}
use mathlib.Core.Bool.{Bool, true, false}
use mathlib.Core.List.{List, [], ◌∷◌, ◌++◌}
use lib.ListN.{length, get_or, length-append, get_or-append}
use lib.Seq.{get_or_at}
use lib.Dec.{eqb}
use borrow.Author.Tests.{eqb-true, eqb-false, eq-eqb, ne_eqb}
use Rattle.compress.specs.Wires.{uses_of}
use Rattle.rows.proofs.wires.Indexed.{closed_by}
use Rattle.walk.specs.Walk.{Answer, wires, refused, Move, finish, refuse, fresh, along, State, side, least, begin, begun, choose, closed, gone, turn, move, run, walk}
use Rattle.walk.specs.lists.Members.{count, del, sits, at}
use Rattle.walk.specs.Claim.{Wire, out, into, Walks}
use Rattle.walk.proofs.lists.Counts.{bit, count_cons, count_append}
use Rattle.walk.proofs.Counts.{count_uses, took, passes, count_all, snoc-all, least_has}

-- Every vertex is balanced.
abbrev pub Even : (ℕ → ℕ) → (ℕ → ℕ) → List ℕ → Type 0
Even front back l = (v : ℕ) → out front v l ≡ into back v l

-- Balance with one wire under way, from s to t: as if one more use went from s, and one more came to t.
abbrev Bal : (ℕ → ℕ) → (ℕ → ℕ) → ℕ → ℕ → List ℕ → Type 0
Bal front back s t l = (v : ℕ) → out front v l + bit (eqb s v) ≡ into back v l + bit (eqb t v)

-- No vertex has more than two uses.
abbrev pub Small : (ℕ → ℕ) → List ℕ → Type 0
Small front l = (v : ℕ) → out front v l ≤ 2

-- ---- what a move says: of the start s, the vertex t where the wire stands, the uses left l, and the number n of those at t

-- why the walk is refused with the number c
abbrev Why : ℕ → ℕ → Type 0
Why c n = ((c ≡ 11) × (n ≡ 0)) ⊎ ((c ≡ 12) × (3 ≤ n))

abbrev What : (ℕ → ℕ) → ℕ → ℕ → List ℕ → ℕ → Move → Type 0
What front s t l n finish = (t ≡ s) × (l ≡ [])
What front s t l n (refuse c) = (t ≢ s) × Why c n
What front s t l n (fresh v) = (t ≡ s) × (0 < out front v l)
What front s t l n (along i) = (t ≢ s) × (i < n)

begins : (front : ℕ → ℕ) (s t n : ℕ) → t ≡ s → (l : List ℕ) → What front s t l n (begin front l)
begins front s t n e [] = (e, refl)
begins front s t n e (x ∷ l) = (e, least_has front x l)

side_two : (a b : Bool) → side a b < 2
side_two true true = omega arith
side_two true false = omega arith
side_two false true = omega arith
side_two false false = omega arith

chooses : (front : ℕ → ℕ) (marked : ℕ → Bool) (m : Bool) (s t : ℕ) (l : List ℕ) → t ≢ s → (b : List ℕ) → What front s t l (length b) (choose marked m b)
chooses front marked m s t l d [] = (d, inl (refl, refl))
chooses front marked m s t l d (x ∷ []) = (d, omega arith)
chooses front marked m s t l d (x ∷ y ∷ []) = (d, side_two m (marked x))
chooses front marked m s t l d (x ∷ y ∷ z ∷ b) = (d, inr (refl, omega arith))

-- ---- a wire under way

record Part (front back : ℕ → ℕ) (s u : ℕ) (w : List ℕ) : Type 0 where
  some : 0 < length w
  first : front (get_or w 0 0) ≡ s
  final : (i : ℕ) → suc i ≡ length w → get_or w i 0 ≡ u
  joined : (i : ℕ) → suc i < length w → back (get_or w i 0) ≡ front (get_or w (suc i) 0)
  early : (i : ℕ) → suc i < length w → back (get_or w i 0) ≢ s

part_one : (front back : ℕ → ℕ) (s u : ℕ) → front u ≡ s → Part front back s u (u ∷ [])
part_one front back s u e = record {
  some = omega arith;
  first = e;
  final = λ i h. let z : i ≡ 0 = omega arith in ap (λ (k : ℕ). get_or (u ∷ []) k 0) z;
  joined = λ i h. absurd (omega arith);
  early = λ i h. absurd (omega arith);
}

part_closed : (front back : ℕ → ℕ) (s u : ℕ) (w : List ℕ) → Part front back s u w → back u ≡ s → Wire front back w
part_closed front back s u w p e = record {
  some = p.some;
  closed = closed_by front back w p.joined (λ i h. ap back (p.final i h) ∙ e ∙ sym p.first);
  early = λ i h g. p.early i h (g ∙ p.first);
}

-- The old members of a wire and the new one.
module _ (w : List ℕ) (x : ℕ) where
  grown : length (w ++ (x ∷ [])) ≡ length w + 1
  grown = length-append w (x ∷ [])

  old : (i : ℕ) → i < length w → get_or (w ++ (x ∷ [])) i 0 ≡ get_or w i 0
  old i h = get_or-append w (x ∷ []) 0 i h

  new : (i : ℕ) → length w ≡ i → get_or (w ++ (x ∷ [])) i 0 ≡ x
  new i h = get_or_at w x [] 0 i h

  which : (i : ℕ) → suc i < length (w ++ (x ∷ [])) → (suc i ≡ length w) ⊎ (suc i < length w)
  which i h = eq-or-lt_of_le (omega (arith, grown))

part_on : (front back : ℕ → ℕ) (s u x : ℕ) (w : List ℕ) → Part front back s u w → back u ≢ s → front x ≡ back u → Part front back s x (w ++ (x ∷ []))
part_on front back s u x w p d e = record {
  some = omega (arith, grown w x);
  first = ap front (old w x 0 p.some) ∙ p.first;
  final = λ i h. new w x i (omega (arith, grown w x));
  joined = λ i h. ⊎_elim
      (λ (g : suc i ≡ length w). ap back (old w x i (omega arith) ∙ p.final i g) ∙ sym e ∙ ap front (sym (new w x (suc i) (sym g))))
      (λ (g : suc i < length w). ap back (old w x i (omega arith)) ∙ p.joined i g ∙ ap front (sym (old w x (suc i) g))) (which w x i h);
  early = λ i h q. ⊎_elim
      (λ (g : suc i ≡ length w). d (sym (ap back (old w x i (omega arith) ∙ p.final i g)) ∙ q))
      (λ (g : suc i < length w). p.early i g (sym (ap back (old w x i (omega arith))) ∙ q)) (which w x i h);
}

-- ---- what is known of an answer: B, that it is balanced; S, that no vertex has more than two uses; T, how many uses there are that pass a test

pub record Done (front back : ℕ → ℕ) (B : Type 0) (T : (ℕ → Bool) → ℕ) (ws : List (List ℕ)) : Type 0 where
  pub even : B
  pub same : (q : ℕ → Bool) → count q (uses_of ws) ≡ T q
  pub all : (i : ℕ) → i < length ws → Wire front back (get_or ws i [])

pub record Stop (B S : Type 0) (c : ℕ) : Type 0 where
  pub code : (c ≡ 11) ⊎ (c ≡ 12)
  pub why : B → S → ⊥
  pub not_eleven : B → c ≢ 11

abbrev pub Known : (ℕ → ℕ) → (ℕ → ℕ) → Type 0 → Type 0 → ((ℕ → Bool) → ℕ) → Answer → Type 0
Known front back B S T (wires ws) = Done front back B T ws
Known front back B S T (refused c) = Stop B S c

lift : (front back : ℕ → ℕ) {B S B' S' : Type 0} {T T' : (ℕ → Bool) → ℕ} → (B → B') → (B' → B) → (S → S') → ((q : ℕ → Bool) → T' q ≡ T q)
    → (a : Answer) → Known front back B' S' T' a → Known front back B S T a
lift front back f g h e (wires ws) r = record { even = g r.even; same = λ q. r.same q ∙ e q; all = r.all }
lift front back f g h e (refused c) r = record { code = r.code; why = λ b s. r.why (f b) (h s); not_eleven = λ b. r.not_eleven (f b) }

-- ---- taking the n-th use of v from l

module _ (front back : ℕ → ℕ) (v n : ℕ) (l : List ℕ) (h : n < out front v l) where
  abbrev u' : ℕ
  u' = get_or (at front v l) n 0

  abbrev l' : List ℕ
  l' = del (sits front v) n l

  front_is : front u' ≡ v
  front_is = eqb-true (front u') v (passes (sits front v) l n h)

  shorter : length l ≡ suc (length l')
  shorter = omega (arith, took (sits front v) (λ _. true) l n h, count_all l, count_all l')

  less : (q : ℕ → Bool) → count q l ≡ bit (q u') + count q l'
  less q = took (sits front v) q l n h

  bit_front : (x : ℕ) → bit (eqb (front u') x) ≡ bit (eqb v x)
  bit_front x = ap (λ (k : ℕ). bit (eqb k x)) front_is

  still_small : Small front l → Small front l'
  still_small s x = omega (arith, s x, less (sits front x))

  -- the wire goes on
  on : (s : ℕ) → Bal front back s v l → Bal front back s (back u') l'
  on s b x = omega (arith, b x, less (sits front x), less (sits back x), bit_front x)

  on⁻¹ : (s : ℕ) → Bal front back s (back u') l' → Bal front back s v l
  on⁻¹ s b x = omega (arith, b x, less (sits front x), less (sits back x), bit_front x)

  -- a wire begins
  anew : Even front back l → Bal front back v (back u') l'
  anew b x = omega (arith, b x, less (sits front x), less (sits back x), bit_front x)

  anew⁻¹ : Bal front back v (back u') l' → Even front back l
  anew⁻¹ b x = omega (arith, b x, less (sits front x), less (sits back x), bit_front x)

  one_more : (w : List ℕ) (q : ℕ → Bool) → count q (w ++ (u' ∷ [])) + count q l' ≡ count q w + count q l
  one_more w q = omega (arith, count_append q w (u' ∷ []), less q, count_cons q u' [])

-- ---- the walk

module _ (front back : ℕ → ℕ) (marked : ℕ → Bool) where
  abbrev Total : State → (ℕ → Bool) → ℕ
  Total st q = count q (uses_of st.done) + (count q st.wire + count q st.rest)

  abbrev KnownAt : State → Answer → Type 0
  KnownAt st a = Known front back (Bal front back st.start (back st.last) st.rest) (Small front st.rest) (Total st) a

  abbrev Says : State → Move → Type 0
  Says st m = What front st.start (back st.last) st.rest (out front (back st.last) st.rest) m

  abbrev Made : List (List ℕ) → Type 0
  Made ws = (i : ℕ) → i < length ws → Wire front back (get_or ws i [])

  record Good (st : State) : Type 0 where
    part : Part front back st.start st.last st.wire
    made : Made st.done

  says : (st : State) → Says st (move front back marked st)
  says st = go (sits back st.start st.last) refl
    where
      go : (t : Bool) → sits back st.start st.last ≡ t → Says st (turn front back marked t st)
      go true e = begins front st.start (back st.last) _ (eqb-true _ _ e) st.rest
      go false e = chooses front marked (marked st.last) st.start (back st.last) st.rest (eqb-false _ _ e) (at front (back st.last) st.rest)

  -- a state that begins a wire
  final_index : (v : ℕ) (l : List ℕ) → 0 < out front v l → out front v l - 1 < out front v l
  final_index v l h = omega arith

  begun_good : (v : ℕ) (l : List ℕ) (ws : List (List ℕ)) → 0 < out front v l → Made ws → Good (begun front v l ws)
  begun_good v l ws h m = record { part = part_one front back v _ (front_is front back v _ l (final_index v l h)); made = m }

  begun_known : (v : ℕ) (l : List ℕ) (ws : List (List ℕ)) → 0 < out front v l → (a : Answer) → KnownAt (begun front v l ws) a
      → Known front back (Even front back l) (Small front l) (λ q. count q (uses_of ws) + count q l) a
  begun_known v l ws h a r =
      let k = final_index v l h in
      lift front back (anew front back v _ l k) (anew⁻¹ front back v _ l k) (still_small front back v _ l k)
      (λ q. omega (arith, one_more front back v _ l k [] q)) a r

  -- a closed wire
  made_more : (st : State) → Good st → back st.last ≡ st.start → Made (closed st)
  made_more st g e = snoc-all (Wire front back) [] st.done st.wire g.made (part_closed front back st.start st.last st.wire g.part e)

  even_bal : (s t : ℕ) (l : List ℕ) → t ≡ s → Even front back l → Bal front back s t l
  even_bal s t l e b v = omega (arith, b v, ap (λ (k : ℕ). bit (eqb k v)) e)

  bal_even : (s t : ℕ) (l : List ℕ) → t ≡ s → Bal front back s t l → Even front back l
  bal_even s t l e b v = omega (arith, b v, ap (λ (k : ℕ). bit (eqb k v)) e)

  -- A wire under way is at no dead end where all is balanced, and is not refused where also no vertex has more than two uses.
  no_dead_end : (s t : ℕ) (l : List ℕ) → t ≢ s → Bal front back s t l → out front t l ≢ 0
  no_dead_end s t l d b e = omega (arith, b t, ap bit (ne_eqb s t (λ g. d (sym g))), ap bit (eq-eqb t t refl))

  not_dead : (c s t : ℕ) (l : List ℕ) → t ≢ s → Why c (out front t l) → Bal front back s t l → c ≢ 11
  not_dead c s t l d (inl w) b e = no_dead_end s t l d b w.1
  not_dead c s t l d (inr w) b e = omega (arith, w.0)

  not_refused : (c s t : ℕ) (l : List ℕ) → t ≢ s → Why c (out front t l) → Bal front back s t l → Small front l → ⊥
  not_refused c s t l d (inl w) b small = no_dead_end s t l d b w.1
  not_refused c s t l d (inr w) b small = omega (arith, w.1, small t)

  fresh_known : (v : ℕ) (st : State) → back st.last ≡ st.start → 0 < out front v st.rest → (a : Answer)
      → KnownAt (begun front v st.rest (closed st)) a → KnownAt st a
  fresh_known v st e h a r =
      lift front back (bal_even st.start (back st.last) st.rest e) (even_bal st.start (back st.last) st.rest e) (λ s. s)
      (λ q. omega (arith, count_uses q st.done st.wire)) a (begun_known v st.rest (closed st) h a r)

  -- a wire that goes on
  gone_good : (n : ℕ) (st : State) → back st.last ≢ st.start → n < out front (back st.last) st.rest → Good st
      → Good (gone front back marked n st)
  gone_good n st d h g = record {
    part = part_on front back st.start st.last _ st.wire g.part d (front_is front back (back st.last) n st.rest h);
    made = g.made;
  }

  gone_known : (n : ℕ) (st : State) → n < out front (back st.last) st.rest → (a : Answer)
      → KnownAt (gone front back marked n st) a → KnownAt st a
  gone_known n st h a r =
      lift front back (on front back (back st.last) n st.rest h st.start) (on⁻¹ front back (back st.last) n st.rest h st.start)
      (still_small front back (back st.last) n st.rest h)
      (λ q. omega (arith, one_more front back (back st.last) n st.rest h st.wire q)) a r

  run_known : (k : ℕ) (m : Move) (st : State) → length st.rest < k → Says st m → Good st → KnownAt st (run front back marked k m st)
  unfolding run
  run_known zero m st h w g = absurd (not-suc-le-zero h)
  run_known (suc k) finish st h w g = record {
    even = even_bal st.start (back st.last) st.rest w.0 (λ v. omega (arith, ap (count (sits front v)) w.1, ap (count (sits back v)) w.1));
    same = λ q. omega (arith, count_uses q st.done st.wire, ap (count q) w.1);
    all = made_more st g w.0;
  }
  run_known (suc k) (refuse c) st h w g = record {
    code = ⊎_elim (λ y. inl y.0) (λ y. inr y.0) w.1;
    why = not_refused c st.start (back st.last) st.rest w.0 w.1;
    not_eleven = not_dead c st.start (back st.last) st.rest w.0 w.1;
  }
  run_known (suc k) (fresh v) st h w g =
      let next = begun front v st.rest (closed st) in
      fresh_known v st w.0 w.1 (run front back marked k (move front back marked next) next) (run_known k (move front back marked next) next
      (omega (arith, shorter front back v _ st.rest (final_index v st.rest w.1))) (says next)
      (begun_good v st.rest (closed st) w.1 (made_more st g w.0)))
  run_known (suc k) (along n) st h w g =
      let next = gone front back marked n st in
      gone_known n st w.1 (run front back marked k (move front back marked next) next) (run_known k (move front back marked next) next
      (omega (arith, shorter front back (back st.last) n st.rest w.1)) (says next) (gone_good n st w.0 w.1 g))

  pub walk_known : (us : List ℕ) → Known front back (Even front back us) (Small front us) (λ q. count q us) (walk front back marked us)
  unfolding walk uses_of
  walk_known [] = record { even = λ v. refl; same = λ q. refl; all = λ i h. absurd (not-suc-le-zero h) }
  walk_known (x ∷ l) =
      let us : List ℕ = x ∷ l in
      let v = least front x l in
      let first = begun front v us [] in
      let h = least_has front x l in
      let a = run front back marked (length us) (move front back marked first) first in
      lift front back (λ b. b) (λ b. b) (λ s. s) (λ q. omega arith) a (begun_known v us [] h a (run_known (length us) (move front back marked first)
      first (omega (arith, shorter front back v _ us (final_index v us h))) (says first) (begun_good v us [] h (λ i b. absurd (not-suc-le-zero b)))))

-- ---- the theorem

pub theorem : (front back : ℕ → ℕ) (marked : ℕ → Bool) (us : List ℕ) → Walks front back marked us
theorem front back marked us = record {
  succeeds = λ even small. ok (walk front back marked us) refl (walk_known front back marked us) even small;
  refuses = λ v d. bad (walk front back marked us) refl (walk_known front back marked us) v d;
  each = λ ws e u. (done ws e).same (eqb u);
  wire = λ ws e. (done ws e).all;
}
  where
    ok : (a : Answer) → walk front back marked us ≡ a → Known front back (Even front back us) (Small front us) (λ q. count q us) a
        → Even front back us → Small front us → (ws : List (List ℕ)) × (walk front back marked us ≡ wires ws)
    ok (wires ws) e r even small = (ws, e)
    ok (refused c) e r even small = absurd (r.why even small)

    bad : (a : Answer) → walk front back marked us ≡ a → Known front back (Even front back us) (Small front us) (λ q. count q us) a
        → (v : ℕ) → out front v us ≢ into back v us → (walk front back marked us ≡ refused 11) ⊎ (walk front back marked us ≡ refused 12)
    bad (wires ws) e r v d = absurd (d (r.even v))
    bad (refused c) e r v d = ⊎_elim (λ (y : c ≡ 11). inl (e ∙ ap refused y)) (λ (y : c ≡ 12). inr (e ∙ ap refused y)) r.code

    done : (ws : List (List ℕ)) → walk front back marked us ≡ wires ws → Done front back (Even front back us) (λ q. count q us) ws
    done ws e = subst (λ (a : Answer). Known front back (Even front back us) (Small front us) (λ q. count q us) a) e (walk_known front back marked us)
