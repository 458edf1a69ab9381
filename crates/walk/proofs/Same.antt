-- The walk over the table and the walk over the list of all uses left answer the same, where every front is below the vertex count.
-- The invariant: at every vertex the table has the uses left there, and no entry where there are none. Assumes nothing.
use Prim.Native.Nat.{ℕ, zero, suc, ◌+◌, ◌-◌, ◌≤◌, ◌<◌, suc-le-suc}
use native.Mathlib.Omega.{arith}
use native.Mathlib.Nat.{eq-or-lt_of_le, le_of_suc-le-suc}
use mathlib.Core.Path.{◌≡◌, refl, ap, sym, subst, ◌∙◌}
use mathlib.Core.Logic.{◌≢◌, ⊎_elim}
use mathlib.Core.Bool.{Bool, true, false}
use mathlib.Core.List.{List, [], ◌∷◌, ◌++◌, append-nil, append_assoc}
use lib.ListN.{length, get_or}
use lib.Dec.{eqb, ltb}
use borrow.Author.Tests.{eqb-true, eqb-false, ne_eqb, ltb-true, ltb-false}
use Rattle.walk.specs.Walk.{Move, finish, refuse, fresh, along, State, least, begin, begun, choose, closed, gone, turn, move, run, walk}
use Rattle.walk.specs.lists.Members.{put, del, sits, at, without}
use Rattle.compress.specs.Records.{pick}
use Rattle.walk.specs.Table.{Entry, absent, Table, Start, nowhere, vertex, Stand, entry_uses, has_uses, kept, update, pushed, filled, table_of, taken, first_from, smallest, again, arrive, starts, follows, next, steps, opened, table_walk}
use Rattle.walk.proofs.lists.Members.{del_nil, at_same, at_other, at_more, filter_snoc}
use Rattle.walk.proofs.Buckets.{begin_finish, begin_fresh}

-- ---- entries

uses_kept : (l : List ℕ) → entry_uses (kept l) ≡ l
uses_kept [] = refl
uses_kept (x ∷ l) = refl

pushed_kept : (l : List ℕ) (u : ℕ) → pushed (kept l) u ≡ kept (l ++ (u ∷ []))
pushed_kept [] u = refl
pushed_kept (x ∷ l) u = refl

arrive_kept : (marked : ℕ → Bool) (m : Bool) (l : List ℕ) → arrive marked m (kept l) ≡ choose marked m l
arrive_kept marked m [] = refl
arrive_kept marked m (x ∷ []) = refl
arrive_kept marked m (x ∷ y ∷ []) = refl
arrive_kept marked m (x ∷ y ∷ z ∷ l) = refl

-- An updated table, by vertex.
updated : (t : Table) (v : ℕ) (e : Entry) (g : ℕ → Entry) → e ≡ g v → ((w : ℕ) → v ≢ w → t w ≡ g w) → (w : ℕ) → update t v e w ≡ g w
updated t v e g here there w = go (eqb w v) refl
  where
    go : (b : Bool) → eqb w v ≡ b → pick b e (t w) ≡ g w
    go true q = here ∙ ap g (sym (eqb-true w v q))
    go false q = there w (λ r. eqb-false w v q (sym r))

module _ (n : ℕ) (front : ℕ → ℕ) where
  -- ---- the invariant

  abbrev Holds : Table → List ℕ → Type 0
  Holds t l = (v : ℕ) → t v ≡ kept (at front v l)

  abbrev Within : List ℕ → Type 0
  Within l = (v : ℕ) → n ≤ v → at front v l ≡ []

  uses_at : (t : Table) (l : List ℕ) → Holds t l → (v : ℕ) → entry_uses (t v) ≡ at front v l
  uses_at t l h v = ap entry_uses (h v) ∙ uses_kept (at front v l)

  -- one use more
  pushed_there : (l : List ℕ) (u w : ℕ) → front u ≢ w → at front w (l ++ (u ∷ [])) ≡ at front w l
  pushed_there l u w d =
      filter_snoc front (sits front w) l u ∙ ap (λ (b : Bool). at front w l ++ put b u []) (ne_eqb (front u) w d) ∙ append-nil (at front w l)

  pushed_holds : (t : Table) (l : List ℕ) (u : ℕ) → Holds t l → Holds (update t (front u) (pushed (t (front u)) u)) (l ++ (u ∷ []))
  pushed_holds t l u h =
      updated t (front u) _ (λ w. kept (at front w (l ++ (u ∷ []))))
      (ap (λ (e : Entry). pushed e u) (h (front u)) ∙ pushed_kept (at front (front u) l) u ∙ ap kept (sym (at_more front l u)))
      (λ w d. h w ∙ ap kept (sym (pushed_there l u w d)))

  filled_holds : (t : Table) (l us : List ℕ) → Holds t l → Holds (filled front t us) (l ++ us)
  filled_holds t l [] h v = h v ∙ ap (λ (m : List ℕ). kept (at front v m)) (sym (append-nil l))
  filled_holds t l (u ∷ us) h v =
      filled_holds (update t (front u) (pushed (t (front u)) u)) (l ++ (u ∷ [])) us (pushed_holds t l u h) v
      ∙ ap (λ (m : List ℕ). kept (at front v m)) (append_assoc l (u ∷ []) us)

  -- one use less
  taken_holds : (t : Table) (l : List ℕ) (v i : ℕ) → Holds t l → Holds (taken t v i) (del (sits front v) i l)
  taken_holds t l v i h =
      updated t v _ (λ w. kept (at front w (del (sits front v) i l)))
      (ap kept (ap (λ (m : List ℕ). without m i) (uses_at t l h v) ∙ sym (at_same front v i l)))
      (λ w d. h w ∙ ap kept (sym (at_other front v w i l d)))

  taken_within : (l : List ℕ) (v i : ℕ) → Within l → Within (del (sits front v) i l)
  taken_within l v i h w b = go (eqb v w) refl
    where
      go : (c : Bool) → eqb v w ≡ c → at front w (del (sits front v) i l) ≡ []
      go true q =
          subst (λ (x : ℕ). at front x (del (sits front v) i l) ≡ []) (eqb-true v w q)
          (at_same front v i l ∙ ap (λ (m : List ℕ). without m i) (h v (omega (arith, eqb-true v w q))) ∙ sym (del_nil i))
      go false q = at_other front v w i l (eqb-false v w q) ∙ h w b

  within : (us : List ℕ) → ((k : ℕ) → k < length us → front (get_or us k 0) < n) → Within us
  within [] h v b = refl
  within (x ∷ l) h v b =
      ap (λ (c : Bool). put c x (at front v l)) (ne_eqb (front x) v (λ g. omega (arith, h 0 (omega arith))))
      ∙ within l (λ k g. h (suc k) (suc-le-suc g)) v b

  -- ---- the smallest vertex that has uses

  module _ (t : Table) (l : List ℕ) (h : Holds t l) (inside : Within l) where
    none_more : (v : ℕ) → ((w : ℕ) → w < v → at front w l ≡ []) → at front v l ≡ [] → (w : ℕ) → w < suc v → at front w l ≡ []
    none_more v none q w g = ⊎_elim (λ (r : w ≡ v). ap (λ (x : ℕ). at front x l) r ∙ q) (none w) (eq-or-lt_of_le (le_of_suc-le-suc g))

    first_begins : (k v : ℕ) → v + k ≡ n → ((w : ℕ) → w < v → at front w l ≡ []) → again (first_from t v k) ≡ begin front l
    first_begins zero v e none = sym (begin_finish front l (λ w. go w (ltb w v) refl))
      where
        go : (w : ℕ) (c : Bool) → ltb w v ≡ c → at front w l ≡ []
        go w true q = none w (ltb-true w v q)
        go w false q = inside w (omega (arith, ltb-false w v q))
    first_begins (suc k) v e none = go (at front v l) refl (λ q. first_begins k (suc v) (omega arith) (none_more v none q))
      where
        entry : (b : List ℕ) → at front v l ≡ b → again (first_from t v (suc k)) ≡ again (pick (has_uses (kept b)) (vertex v) (first_from t (suc v) k))
        entry b q = ap (λ (x : Entry). again (pick (has_uses x) (vertex v) (first_from t (suc v) k))) (h v ∙ ap kept q)

        go : (b : List ℕ) → at front v l ≡ b → (at front v l ≡ [] → again (first_from t (suc v) k) ≡ begin front l)
            → again (first_from t v (suc k)) ≡ begin front l
        go [] q ih = entry [] q ∙ ih q
        go (x ∷ b) q ih = entry (x ∷ b) q ∙ sym (begin_fresh front v l none (omega (arith, ap length q)))

    smallest_begins : again (smallest n t) ≡ begin front l
    smallest_begins = first_begins n 0 (omega arith) (λ w g. absurd (omega arith))

module _ (n : ℕ) (front back : ℕ → ℕ) (marked : ℕ → Bool) where
  -- ---- the same move, and the same state after it

  abbrev stand : State → Table → Stand
  stand st t = record { start = st.start; last = st.last; table = t; wire = st.wire; done = st.done }

  record Like (st : State) (p : Stand) : Type 0 where
    table : Table
    same : p ≡ stand st table
    holds : Holds n front table st.rest
    inside : Within n front st.rest

  next_move : (st : State) (t : Table) → Holds n front t st.rest → Within n front st.rest → next n front back marked (stand st t) ≡ move front back marked st
  next_move st t h inside = go (sits back st.start st.last)
    where
      go : (b : Bool) → pick b (again (smallest n t)) (arrive marked (marked st.last) (t (back st.last))) ≡ turn front back marked b st
      go true = smallest_begins n front t st.rest h inside
      go false = ap (arrive marked (marked st.last)) (h (back st.last)) ∙ arrive_kept marked (marked st.last) (at front (back st.last) st.rest)

  starts_like : (v : ℕ) (t : Table) (l : List ℕ) (ws : List (List ℕ)) → Holds n front t l → Within n front l → Like (begun front v l ws) (starts v t ws)
  starts_like v t l ws h inside =
      let i = length (at front v l) - 1 in
      record {
        table = taken t v i;
        same = ap (λ (m : List ℕ). let u = get_or m (length m - 1) 0 in record { start = v; last = u; table = taken t v (length m - 1); wire = u ∷ []; done = ws }) (uses_at n front t l h v);
        holds = taken_holds n front t l v i h;
        inside = taken_within n front l v i inside;
      }

  follows_like : (i : ℕ) (st : State) (t : Table) → Holds n front t st.rest → Within n front st.rest
      → Like (gone front back marked i st) (follows n front back marked i (stand st t))
  follows_like i st t h inside =
      let v = back st.last in
      record {
        table = taken t v i;
        same = ap (λ (m : List ℕ). let u = get_or m i 0 in record { start = st.start; last = u; table = taken t v i; wire = st.wire ++ (u ∷ []); done = st.done })
            (uses_at n front t st.rest h v);
        holds = taken_holds n front t st.rest v i h;
        inside = taken_within n front st.rest v i inside;
      }

  -- ---- the walks

  on_like : (k : ℕ) → ((m : Move) (st : State) (t : Table) → Holds n front t st.rest → Within n front st.rest
      → steps n front back marked k m (stand st t) ≡ run front back marked k m st)
      → (st : State) (p : Stand) → Like st p → steps n front back marked k (next n front back marked p) p ≡ run front back marked k (move front back marked st) st
  on_like k ih st p r =
      ap (λ (q : Stand). steps n front back marked k (next n front back marked q) q) r.same
      ∙ ap (λ (m : Move). steps n front back marked k m (stand st r.table)) (next_move st r.table r.holds r.inside)
      ∙ ih (move front back marked st) st r.table r.holds r.inside

  steps_run : (k : ℕ) (m : Move) (st : State) (t : Table) → Holds n front t st.rest → Within n front st.rest
      → steps n front back marked k m (stand st t) ≡ run front back marked k m st
  unfolding steps run
  steps_run zero m st t h inside = refl
  steps_run (suc k) finish st t h inside = refl
  steps_run (suc k) (refuse c) st t h inside = refl
  steps_run (suc k) (fresh v) st t h inside = on_like k (steps_run k) _ _ (starts_like v t st.rest (closed st) h inside)
  steps_run (suc k) (along i) st t h inside = on_like k (steps_run k) _ _ (follows_like i st t h inside)

  opened_walk : (s : Start) (t : Table) (us : List ℕ) → again s ≡ begin front us → Holds n front t us → Within n front us
      → opened n front back marked (length us) s t ≡ walk front back marked us
  unfolding opened walk
  opened_walk nowhere t [] e h inside = refl
  opened_walk nowhere t (x ∷ l) e h inside = let z : ◌≡◌ {A = ℕ} 0 1 = cc in absurd (omega arith)
  opened_walk (vertex v) t [] e h inside = let z : ◌≡◌ {A = ℕ} 0 1 = cc in absurd (omega arith)
  opened_walk (vertex v) t (x ∷ l) e h inside =
      let us : List ℕ = x ∷ l in
      let same : v ≡ least front x l = cc in
      ap (λ (w : ℕ). let q = starts w t [] in steps n front back marked (length us) (next n front back marked q) q) same
      ∙ on_like (length us) (steps_run (length us)) _ _ (starts_like (least front x l) t us [] h inside)

pub same : (n : ℕ) (front back : ℕ → ℕ) (marked : ℕ → Bool) (us : List ℕ) → ((k : ℕ) → k < length us → front (get_or us k 0) < n)
    → table_walk n front back marked us ≡ walk front back marked us
unfolding table_walk
same n front back marked us fits =
    let h = filled_holds n front (λ _. absent) [] us (λ v. refl) in
    let inside = within n front us fits in
    opened_walk n front back marked (smallest n (table_of front us)) (table_of front us) us (smallest_begins n front (table_of front us) us h inside) h inside
