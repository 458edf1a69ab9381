-- Where the walk's two loops stand, and what each turn of them does.
-- Assumes nothing.
use Prim.Native.Nat.{ℕ, suc, ◌+◌, ◌-◌, ◌≤◌, ◌<◌}
use native.Mathlib.Omega.{arith}
use native.Mathlib.Numerals.{add-one}
use mathlib.Core.Path.{◌≡◌, refl, sym, ap, subst, ◌∙◌}
use mathlib.Core.Logic.{◌≢◌}
use mathlib.Core.Bool.{Bool, true, false}
use mathlib.Core.List.{List, [], ◌∷◌, ◌++◌, map}
use lib.ListN.{length, take, drop, get_or, set, length-append, length-set, length-drop, get_or-eq_default}
use lib.Seq.{length-take-le, take-suc-set, take-set-le, get_or-set_other}
use Rattle.walk.specs.Walk.{exactly_one, refuse, along, side, choose, walk}
use Rattle.walk.specs.lists.Members.{count, del, sits, at}
use Rattle.walk.proofs.Buckets.{all_empty}
use Rattle.std.proofs.lemmas.Bool.{cases_lt}
use Rattle.std.proofs.lemmas.List.{map-append}
use Rattle.std.proofs.Common.{⊎_elim, Option, Some, None, Ok, Err, IsSome, unwrap_or}
use Rattle.compress.specs.declared.Refusal.{Refusal}
use Rattle.compress.specs.declared.Refusal.TheVariants.{DeadEnd, TooManyUses}
use Rattle.walk.specs.lists.Lists.{entry_of, Lists, Lowest}
use Rattle.walk.specs.step.Arrival.{Went, absent, empty, many, one, second, first}
use Rattle.compress.specs.Wires.{uses_of, total}
use Rattle.walk.specs.Answered.{Traced}
use Rattle.walk.proofs.lists.Chains.{chain_none, node, entry_some, lists_last, lists_first, two, one_only, three}
use Rattle.walk.proofs.Steps.{going, after, after_walk, after_nil, going_refused, going_along, going_closed, after_fresh, shorter, wire_more, wire_first, wire_joined, uses_snoc}

side_second : (a b : Bool) → exactly_one a b ≡ false → side a b ≡ 1
side_second true true e = refl
side_second true false e = let z : ◌≡◌ {A = ℕ} 0 1 = cc in absurd (omega arith)
side_second false true e = let z : ◌≡◌ {A = ℕ} 0 1 = cc in absurd (omega arith)
side_second false false e = refl

side_first : (a b : Bool) → exactly_one a b ≡ true → side a b ≡ 0
side_first true true e = let z : ◌≡◌ {A = ℕ} 0 1 = cc in absurd (omega arith)
side_first true false e = refl
side_first false true e = refl
side_first false false e = let z : ◌≡◌ {A = ℕ} 0 1 = cc in absurd (omega arith)

many_refused : (marked : ℕ → Bool) (m : Bool) (b : List ℕ) → 3 ≤ length b → choose marked m b ≡ refuse 12
many_refused marked m [] h = absurd (omega arith)
many_refused marked m (x ∷ []) h = absurd (omega arith)
many_refused marked m (x ∷ y ∷ []) h = absurd (omega arith)
many_refused marked m (x ∷ y ∷ z ∷ b) h = refl

total_lengths : (ws : List (List ℕ)) → total (map length ws) ≡ length (uses_of ws)
unfolding total uses_of
total_lengths [] = refl
total_lengths (w ∷ ws) = omega (arith, total_lengths ws, length-append w (uses_of ws))

module _ (front back : ℕ → ℕ) (marked : ℕ → Bool) (us : List ℕ) where
  -- between two wires: n are made, of taken uses
  pub record Between (hd nx made sizes : List ℕ) (start taken n : ℕ) : Type 0 where
    pub rest : List ℕ
    pub ws : List (List ℕ)
    pub lists : Lists front us (length us) hd nx rest
    pub low : (w : ℕ) → w < start → get_or hd w 0 ≤ 1
    pub start_le : start ≤ 4096
    pub long_made : length made ≡ 1024
    pub long_sizes : length sizes ≡ 1024
    pub count_is : length rest + taken ≡ length us
    pub few : n ≤ taken
    pub n_is : length ws ≡ n
    pub joined : uses_of ws ≡ take taken made
    pub sized : map length ws ≡ take n sizes
    pub to : after front back marked (length rest) rest ws ≡ walk front back marked us

  -- a wire is under way: from start, made from `from` on, its last use at a place of us
  pub record Along (hd nx made sizes : List ℕ) (start from taken n last : ℕ) : Type 0 where
    pub rest : List ℕ
    pub ws : List (List ℕ)
    pub lists : Lists front us (length us) hd nx rest
    pub low : (w : ℕ) → w < start → get_or hd w 0 ≤ 1
    pub start_le : start ≤ 4096
    pub long_made : length made ≡ 1024
    pub long_sizes : length sizes ≡ 1024
    pub count_is : length rest + taken ≡ length us
    pub from_lt : from < taken
    pub few : n ≤ from
    pub n_is : length ws ≡ n
    pub joined : uses_of ws ≡ take from made
    pub sized : map length ws ≡ take n sizes
    pub place : ℕ
    pub place_lt : place < length us
    pub last_at : last ≡ get_or us place 0
    pub to : going front back marked (suc (length rest)) start last rest (drop from (take taken made)) ws ≡ walk front back marked us

module _ {front back : ℕ → ℕ} {marked : ℕ → Bool} {us : List ℕ} where
  pub between_start : {hd nx made sizes : List ℕ} → Lists front us (length us) hd nx us → length made ≡ 1024 → length sizes ≡ 1024 → Between front back marked us hd nx made sizes 0 0 0
  unfolding uses_of
  between_start L lm ls = record {
    rest = us;
    ws = [];
    lists = L;
    low = λ w h. absurd (omega arith);
    start_le = omega arith;
    long_made = lm;
    long_sizes = ls;
    count_is = omega arith;
    few = omega arith;
    n_is = refl;
    joined = refl;
    sized = refl;
    to = after_walk front back marked us;
  }

  module _ {hd nx made sizes : List ℕ} {start taken n : ℕ} (B : Between front back marked us hd nx made sizes start taken n) where
    -- a vertex that is absent, or whose list is empty, has no uses left
    empty_at : (v : ℕ) → get_or hd v 0 ≤ 1 → at front v B.rest ≡ []
    empty_at v h = chain_none front us nx (length us) v (get_or hd v 0 - 1) (at front v B.rest) (omega arith) (B.lists.chains v)

    pub between_some : {r : ℕ} → taken < length us → Lowest hd r → r < 4096
    between_some {r} lt low =
        let no : ¬ (4096 ≤ r) = λ g.
        let e : B.rest ≡ [] = all_empty front B.rest (λ v. empty_at v (no_list v g)) in
        omega (arith, ap length e, B.count_is) in
        omega arith
      where
        no_list : (v : ℕ) → 4096 ≤ r → get_or hd v 0 ≤ 1
        no_list v g = ⊎_elim (λ h. low.below v h) (λ h. omega (arith, get_or-eq_default hd 0 {n = v} (omega (arith, B.lists.long_heads)))) (cases_lt v r)

    pub between_done : length us ≤ 1024 → taken ≡ length us → Traced (walk front back marked us) (length us) made sizes (Ok (record { wires = n; uses = taken }))
    unfolding Traced
    between_done fits h =
        let e : B.rest ≡ [] = nil B.rest (omega (arith, B.count_is)) in (
          record {
            ws = B.ws;
            is = sym B.to ∙ after_nil front back marked (length B.rest) B.rest B.ws e;
            count = B.n_is;
            joined = B.joined;
            sized = B.sized;
            summed = ap total (sym B.sized) ∙ total_lengths B.ws ∙ ap length B.joined ∙ length-take-le taken made (omega (arith, B.count_is, B.long_made));
            few = B.few;
            long_made = B.long_made;
            long_sizes = B.long_sizes;
          },
          h,
        )
      where
        nil : (l : List ℕ) → length l ≡ 0 → l ≡ []
        nil [] h = refl
        nil (x ∷ l) h = absurd (omega arith)

    -- a wire begins, at the smallest vertex that has uses left
    pub between_begin : {hd' : List ℕ} {r u : ℕ} → taken < length us → length us ≤ 1024 → Lowest hd r
        → u ≡ get_or us (get_or hd r 0 - 2) 0 → hd' ≡ set hd r (entry_of (get_or nx (get_or hd r 0 - 2) 0))
        → Along front back marked us hd' nx (set made taken u) sizes r taken (taken + 1) n u
    between_begin {hd'} {r} {u} lt few low eu eh =
        let small : r < 4096 = between_some lt low in
        let p = get_or hd r 0 - 2 in
        let hp : get_or hd r 0 ≡ p + 2 = omega (arith, low.has small) in
        let N = node front us (length us) hd nx B.rest B.lists r p hp in
        let k = length (at front r B.rest) - 1 in
        let rest' = del (sits front r) k B.rest in
        let is : at front r B.rest ≡ N.before ++ (u ∷ []) = N.is ∙ ap (λ (x : ℕ). N.before ++ (x ∷ [])) (sym eu) in
        let some : k < count (sits front r) B.rest = omega (arith, ap length is, length-append N.before (u ∷ [])) in
        let sh : length B.rest ≡ suc (length rest') = shorter (sits front r) B.rest k some in
        let f : after front back marked (length B.rest) B.rest B.ws ≡ going front back marked (length B.rest) r u rest' (u ∷ []) B.ws
        = after_fresh front back marked (length B.rest) r u B.rest N.before B.ws (λ w h. empty_at w (low.below w h)) is in
        record {
          rest = rest';
          ws = B.ws;
          lists = subst (λ (h : List ℕ). Lists front us (length us) h nx rest') (sym eh) (lists_last front us (length us) hd nx B.rest B.lists r p hp small);
          low = λ w h. omega (arith, ap (λ (l : List ℕ). get_or l w 0) eh, get_or-set_other hd r w (entry_of (get_or nx p 0)) 0 (λ g. omega arith), low.below w h);
          start_le = low.within;
          long_made = length-set made taken u ∙ B.long_made;
          long_sizes = B.long_sizes;
          count_is = omega (arith, B.count_is);
          from_lt = omega arith;
          few = B.few;
          n_is = B.n_is;
          joined = B.joined ∙ sym (take-set-le taken made taken u (omega arith));
          sized = B.sized;
          place = p;
          place_lt = N.below;
          last_at = eu;
          to = ap (λ (w : List ℕ). going front back marked (suc (length rest')) r u rest' w B.ws) (wire_first made taken taken u (omega arith) (omega (arith, B.long_made)))
              ∙ ap (λ (j : ℕ). going front back marked j r u rest' (u ∷ []) B.ws) (sym sh) ∙ sym f ∙ B.to;
        }

  module _ {hd nx made sizes : List ℕ} {start from taken n last : ℕ} (A : Along front back marked us hd nx made sizes start from taken n last) where
    -- the wire goes on with the use at index k of the list
    along_go : (hd' nx' : List ℕ) (k u p : ℕ) (b : List ℕ) → length us ≤ 1024 → back last ≢ start → at front (back last) A.rest ≡ b → choose marked (marked last) b ≡ along k
        → k < length b → u ≡ get_or b k 0 → p < length us → u ≡ get_or us p 0 → Lists front us (length us) hd' nx' (del (sits front (back last)) k A.rest)
        → ((w : ℕ) → w < start → get_or hd' w 0 ≤ 1) → Along front back marked us hd' nx' (set made taken u) sizes start from (taken + 1) n u
    along_go hd' nx' k u p b fits d eb ec kb eu hp ep L low =
        let rest' = del (sits front (back last)) k A.rest in
        let sh : length A.rest ≡ suc (length rest') = shorter (sits front (back last)) A.rest k (omega (arith, ap length eb)) in
        let g = going_along front back marked start last A.rest (drop from (take taken made)) A.ws (length A.rest) k b d eb ec in
        record {
          rest = rest';
          ws = A.ws;
          lists = L;
          low = low;
          start_le = A.start_le;
          long_made = length-set made taken u ∙ A.long_made;
          long_sizes = A.long_sizes;
          count_is = omega (arith, A.count_is);
          from_lt = omega (arith, A.from_lt);
          few = A.few;
          n_is = A.n_is;
          joined = A.joined ∙ sym (take-set-le from made taken u (omega (arith, A.from_lt)));
          sized = A.sized;
          place = p;
          place_lt = hp;
          last_at = ep;
          to = ap (λ (w : List ℕ). going front back marked (suc (length rest')) start u rest' w A.ws) (wire_more made from taken u (omega (arith, A.from_lt)) (omega (arith, A.long_made, A.count_is)))
              ∙ ap (λ (j : ℕ). going front back marked j start u rest' (drop from (take taken made) ++ (u ∷ [])) A.ws) (sym sh)
              ∙ ap (λ (x : ℕ). going front back marked (length A.rest) start x rest' (drop from (take taken made) ++ (x ∷ [])) A.ws) eu
              ∙ sym g ∙ A.to;
        }

    -- taking the last of the list leaves the vertices below the start as they are
    low_last : (v p x : ℕ) → get_or hd v 0 ≡ p + 2 → (w : ℕ) → w < start → get_or (set hd v x) w 0 ≤ 1
    low_last v p x hp w h = omega (arith, get_or-set_other hd v w x 0 (λ g. omega (arith, A.low w h, ap (λ (j : ℕ). get_or hd j 0) g)), A.low w h)

    -- the last of the list
    along_last : (hd' nx' : List ℕ) (k u p : ℕ) (b : List ℕ) → length us ≤ 1024 → back last < 4096 → back last ≢ start → get_or hd (back last) 0 ≡ p + 2 → at front (back last) A.rest ≡ b
        → choose marked (marked last) b ≡ along k → k + 1 ≡ length b → get_or us p 0 ≡ get_or b k 0 → u ≡ get_or us p 0
        → hd' ≡ set hd (back last) (entry_of (get_or nx p 0)) → nx' ≡ nx → Along front back marked us hd' nx' (set made taken u) sizes start from (taken + 1) n u
    along_last hd' nx' k u p b fits small d hp eb ec kb ep eu eh en =
        let v = back last in
        let N = node front us (length us) hd nx A.rest A.lists v p hp in
        let kk : length (at front v A.rest) - 1 ≡ k = omega (arith, ap length eb) in
        along_go hd' nx' k u p b fits d eb ec (omega arith) (eu ∙ ep) N.below eu
        (rw (eh, en) (subst (λ (j : ℕ). Lists front us (length us) (set hd v (entry_of (get_or nx p 0))) nx (del (sits front v) j A.rest)) kk (lists_last front us (length us) hd nx A.rest A.lists v p hp small)))
        (λ w h. rw eh (low_last v p (entry_of (get_or nx p 0)) hp w h))

    -- a step that takes a use
    pub along_on : {hd' nx' : List ℕ} {u : ℕ} → length us ≤ 1024 → back last < 4096 → back last ≢ start → Went marked us hd nx (back last) last (Ok u) hd' nx'
        → Along front back marked us hd' nx' (set made taken u) sizes start from (taken + 1) n u
    along_on fits small d (absent h e eh en) = cc
    along_on fits small d (empty h e eh en) = cc
    along_on fits small d (many p a b hp ha hb e eh en) = cc
    along_on {hd'} {nx'} {u} fits small d (one p hp hz e eh en) =
        let x : hd' ≡ set hd (back last) (entry_of (get_or nx p 0)) = eh ∙ sym (ap (λ (j : ℕ). set hd (back last) (entry_of j)) hz) in
        along_last hd' nx' 0 u p (get_or us p 0 ∷ []) fits small d hp (one_only front us (length us) hd nx A.rest A.lists (back last) p hp hz) refl refl refl (cc) x en
    along_on {hd'} {nx'} {u} fits small d (second p a hp ha hz hm e eh en) =
        let x : hd' ≡ set hd (back last) (entry_of (get_or nx p 0)) = eh ∙ ap (λ (j : ℕ). set hd (back last) j) (sym (entry_some (get_or nx p 0) a ha)) in
        along_last hd' nx' 1 u p (get_or us a 0 ∷ get_or us p 0 ∷ []) fits small d hp (two front us (length us) hd nx A.rest A.lists (back last) p hp a ha hz)
        (ap along (side_second (marked last) (marked (get_or us a 0)) hm)) refl refl (cc) x en
    along_on {hd'} {nx'} {u} fits small d (first p a hp ha hz hm e eh en) =
        let v = back last in
        let L = A.lists in
        let eu : u ≡ get_or us a 0 = cc in
        along_go hd' nx' 0 u a (get_or us a 0 ∷ get_or us p 0 ∷ []) fits d (two front us (length us) hd nx A.rest L v p hp a ha hz)
        (ap along (side_first (marked last) (marked (get_or us a 0)) hm)) (omega arith) eu (omega (arith, L.tables.nexts p)) eu
        (rw (eh, en) (lists_first front us (length us) hd nx A.rest L v p hp a ha hz fits))
        (λ w h. rw eh (A.low w h))

    -- a step at which the walk stops
    pub along_stop : {hd' nx' : List ℕ} {r : Refusal} (made' sizes' : List ℕ) → back last ≢ start → Went marked us hd nx (back last) last (Err r) hd' nx'
        → Traced (walk front back marked us) (length us) made' sizes' (Err r)
    unfolding Traced
    along_stop {hd'} {nx'} {r} made' sizes' d (absent h e eh en) =
        let q : r ≡ DeadEnd = cc in
        rw q
        (sym A.to ∙ going_refused front back marked start last A.rest (drop from (take taken made)) A.ws (length A.rest) 11 [] d
        (chain_none front us nx (length us) (back last) (get_or hd (back last) 0 - 1) (at front (back last) A.rest) (omega arith) (A.lists.chains (back last))) refl)
    along_stop made' sizes' d (empty h e eh en) = absurd (A.lists.dropped (back last) h)
    along_stop {hd'} {nx'} {r} made' sizes' d (many p a b hp ha hb e eh en) =
        let q : r ≡ TooManyUses = cc in
        rw q
        (sym A.to ∙ going_refused front back marked start last A.rest (drop from (take taken made)) A.ws (length A.rest) 12 (at front (back last) A.rest) d refl
        (many_refused marked (marked last) (at front (back last) A.rest) (three front us (length us) hd nx A.rest A.lists (back last) p hp a b ha hb)))
    along_stop made' sizes' d (one p hp hz e eh en) = cc
    along_stop made' sizes' d (second p a hp ha hz hm e eh en) = cc
    along_stop made' sizes' d (first p a hp ha hz hm e eh en) = cc

    -- the wire is closed
    pub along_close : length us ≤ 1024 → back last ≡ start
        → Between front back marked us hd nx made (set sizes n (taken - from)) start taken (n + 1)
    along_close fits e =
        let wire = drop from (take taken made) in
        let lw : length wire ≡ taken - from = length-drop from (take taken made) ∙ ap (λ (j : ℕ). j - from) (length-take-le taken made (omega (arith, A.count_is, A.long_made))) in
        let n_lt : n < length sizes = omega (arith, A.few, A.from_lt, A.count_is, A.long_sizes) in
        record {
          rest = A.rest;
          ws = A.ws ++ (wire ∷ []);
          lists = A.lists;
          low = A.low;
          start_le = A.start_le;
          long_made = A.long_made;
          long_sizes = length-set sizes n (taken - from) ∙ A.long_sizes;
          count_is = A.count_is;
          few = omega (arith, A.few, A.from_lt);
          n_is = length-append A.ws (wire ∷ []) ∙ omega (arith, A.n_is);
          joined = uses_snoc A.ws wire ∙ ap (λ (l : List ℕ). l ++ wire) A.joined ∙ wire_joined made from taken (omega (arith, A.from_lt));
          sized = map-append length A.ws (wire ∷ []) ∙ ap (λ (j : ℕ). map length A.ws ++ (j ∷ [])) lw ∙ ap (λ (l : List ℕ). l ++ ((taken - from) ∷ [])) A.sized
              ∙ sym (ap (λ (j : ℕ). take j (set sizes n (taken - from))) (add-one n) ∙ take-suc-set sizes n (taken - from) n_lt);
          to = sym (going_closed front back marked start last A.rest wire A.ws (length A.rest) e) ∙ A.to;
        }

-- a vertex below the last is one that was found
pub found : (r : Option ℕ) → unwrap_or r 4096 < 4096 → IsSome r
found None h = absurd (omega arith)
found (Some v) h = refl
