-- Demand 3: every split keeps each directed use, whatever it is lent. Assumes nothing.
use mathlib.Core.Path.{◌≡◌, refl, ap, sym, subst, ◌∙◌}
use mathlib.Core.Bool.{Bool, true, false, ◌&&◌}
use mathlib.Core.List.{List, [], ◌∷◌}
use mathlib.Core.Logic.{◌≢◌, ◌⊎◌, inl, inr, ⊎_elim}
use Prim.Native.Nat.{ℕ, zero, suc, ◌+◌, ◌*◌, ◌/◌, ◌≤◌, ◌<◌}
use native.Mathlib.Omega.{arith}
use borrow.Author.Tests.{ltb-true, ltb-false, leb-true, leb-false, eqb-true, eqb-false, ne_eqb}
use lib.Dec.{eqb, leb, ltb}
use lib.ListN.{length, get_or}
use lib.Seq.{take-append_seam}
use Rattle.compress.specs.Records.{pick}
use Rattle.compress.specs.Said.{Said, result, refused, cause_or}
use Rattle.compress.specs.Wires.{uses_of}
use Rattle.compress.proofs.Refused.{refused_never, result_told}
use Rattle.compress.proofs.Wires.{wires_stored}
use Rattle.walk.specs.Walk.{Answer, wires}
use Rattle.walk.specs.lists.Members.{count, sits}
use Rattle.walk.specs.Walk as walk
use Rattle.walk.specs.Claim.{Claimed}
use Rattle.walk.proofs.lists.Counts.{bit, count_cons, count_append}
use Rattle.walk.proofs.Tabled.{table_theorem, table_balanced}
use Rattle.walk.specs.marks.Marks.{new_uses}
use Rattle.split.specs.declared.Boundaries.{Boundaries}
use Rattle.split.specs.Split.{seams, edges_after, marked_in, uses_to_walk, split_wires}
use Rattle.split.specs.Contract.{given_in, SplitOutcome, split_stored, turned_away, after_walk, split_outcome}
use Rattle.split.specs.split_causes.Causes.{Buffers, LentSplit, split_cause}
use Rattle.split.specs.Demand.{front_in, back_in, fronts_at, backs_at, Balanced, AtMostTwo, counted, Kept, KeepsUses}
use Rattle.split.proofs.split_causes.Accepted.{split_checked}
use Rattle.split.proofs.Fronts.{length_seams, length_edges, uses_known, front_below, back_below}

-- ---- the uses of new edges, counted

-- the two uses of edge m are not those of another edge
other_edge : (u m : ℕ) → u / 2 ≢ m → (bit (eqb u (m * 2)) ≡ 0) × (bit (eqb u (m * 2 + 1)) ≡ 0)
other_edge u m h =
    (ap bit (ne_eqb u (m * 2) (λ e. h (omega arith))), ap bit (ne_eqb u (m * 2 + 1) (λ e. h (omega arith))))

-- and of its own two a use is one
own_edge : (u m : ℕ) → u / 2 ≡ m → bit (eqb u (m * 2)) + bit (eqb u (m * 2 + 1)) ≡ 1
own_edge u m h = go (eqb u (m * 2)) (eqb u (m * 2 + 1)) refl refl
  where
    go : (a b : Bool) → eqb u (m * 2) ≡ a → eqb u (m * 2 + 1) ≡ b → bit a + bit b ≡ 1
    go true true p q = absurd (omega (arith, eqb-true u (m * 2) p, eqb-true u (m * 2 + 1) q))
    go true false p q = refl
    go false true p q = refl
    go false false p q = absurd (omega (arith, eqb-false u (m * 2) p, eqb-false u (m * 2 + 1) q))

new_cons : (u m k : ℕ) → count (eqb u) (new_uses m (suc k)) ≡ bit (eqb u (m * 2)) + bit (eqb u (m * 2 + 1)) + count (eqb u) (new_uses (m + 1) k)
unfolding new_uses
new_cons u m k =
    omega (arith, count_cons (eqb u) (m * 2) ((m * 2 + 1) ∷ new_uses (m + 1) k), count_cons (eqb u) (m * 2 + 1) (new_uses (m + 1) k))

new_none : (u m : ℕ) → count (eqb u) (new_uses m 0) ≡ 0
unfolding new_uses
new_none u m = refl

below : (u m k : ℕ) → u / 2 < m → count (eqb u) (new_uses m k) ≡ 0
below u m zero h = new_none u m
below u m (suc k) h =
    let o = other_edge u m (λ e. omega arith) in
    omega (arith, new_cons u m k, below u (m + 1) k (omega arith))

above : (u m k : ℕ) → m + k ≤ u / 2 → count (eqb u) (new_uses m k) ≡ 0
above u m zero h = new_none u m
above u m (suc k) h =
    let o = other_edge u m (λ e. omega arith) in
    omega (arith, new_cons u m k, above u (m + 1) k (omega arith))

within : (u m k : ℕ) → m ≤ u / 2 → u / 2 < m + k → count (eqb u) (new_uses m k) ≡ 1
within u m zero h g = absurd (omega arith)
within u m (suc k) h g = go (eqb (u / 2) m) refl (λ a. within u (m + 1) k a (omega arith))
  where
    go : (b : Bool) → eqb (u / 2) m ≡ b → (m + 1 ≤ u / 2 → count (eqb u) (new_uses (m + 1) k) ≡ 1) → count (eqb u) (new_uses m (suc k)) ≡ 1
    go true q later =
        let e = eqb-true (u / 2) m q in
        omega (arith, new_cons u m k, own_edge u m e, below u (m + 1) k (omega arith))
    go false q later =
        let e = eqb-false (u / 2) m q in
        let o = other_edge u m e in
        omega (arith, new_cons u m k, later (omega (arith, e)))

count_new : (u m k : ℕ) → count (eqb u) (new_uses m k) ≡ pick (leb m (u / 2) && ltb (u / 2) (m + k)) 1 0
count_new u m k = go (leb m (u / 2)) (ltb (u / 2) (m + k)) refl refl
  where
    go : (a b : Bool) → leb m (u / 2) ≡ a → ltb (u / 2) (m + k) ≡ b → count (eqb u) (new_uses m k) ≡ pick (a && b) 1 0
    go true true p q = within u m k (leb-true m (u / 2) p) (ltb-true (u / 2) (m + k) q)
    go true false p q = above u m k (ltb-false (u / 2) (m + k) q)
    go false b p q = below u m k (leb-false m (u / 2) p)

-- the uses to be walked are those that were counted
counted_all : (l : LentSplit) (u : ℕ) → count (eqb u) (uses_to_walk (given_in l)) ≡ counted l u
unfolding given_in
counted_all l u =
    count_append (eqb u) (given_in l).rebuilt (new_uses (length (given_in l).edges) (length (seams (given_in l))))
    ∙ ap (λ (n : ℕ). count (eqb u) (given_in l).rebuilt + n)
    (count_new u (length (given_in l).edges) (length (seams (given_in l))) ∙ rw (length_edges l, length_seams l))

-- none of the uses passes a test: they are counted as 0
none_pass : (p : ℕ → Bool) (us : List ℕ) → ((k : ℕ) → k < length us → p (get_or us k 0) ≡ false) → count p us ≡ 0
none_pass p [] h = refl
none_pass p (u ∷ us) h =
    omega (arith, count_cons p u us, ap bit (h 0 (omega arith)), none_pass p us (λ k g. h (suc k) (omega arith)))

-- ---- the outcome

module _ (l : LentSplit) where
  -- refused before the walk
  keeps_cause : (n : ℕ) → split_cause l ≡ suc n → KeepsUses l (record { said = refused (suc n); buffers = l.buffers })
  keeps_cause n e =
      record {
        succeeds = λ q even few. absurd (omega arith);
        refuses = λ q v ne. absurd (omega arith);
        kept = λ c p. absurd (refused_never (suc n) p);
        no_dead_end = λ q even p. omega arith;
      }

  module _ (none : split_cause l ≡ 0) where
    fits : (k : ℕ) → k < length (uses_to_walk (given_in l)) → front_in l (get_or (uses_to_walk (given_in l)) k 0) < l.vertices
    fits k h =
        let a = (split_checked l none).accepted in
        front_below l a (get_or (uses_to_walk (given_in l)) k 0) (uses_known l a k h)

    fits_back : (k : ℕ) → k < length (uses_to_walk (given_in l)) → back_in l (get_or (uses_to_walk (given_in l)) k 0) < l.vertices
    fits_back k h =
        let a = (split_checked l none).accepted in
        back_below l a (get_or (uses_to_walk (given_in l)) k 0) (uses_known l a k h)

    -- a number that is no vertex has no uses
    beyond : (v : ℕ) → l.vertices ≤ v → (fronts_at l v ≡ 0) × (backs_at l v ≡ 0)
    beyond v h = (
      none_pass (sits (front_in l) v) (uses_to_walk (given_in l)) (λ k g. ne_eqb _ v (λ e. omega (arith, fits k g))),
      none_pass (sits (back_in l) v) (uses_to_walk (given_in l)) (λ k g. ne_eqb _ v (λ e. omega (arith, fits_back k g))),
    )

    -- so what is asked of the vertices holds of every number
    all_balanced : Balanced l → (v : ℕ) → fronts_at l v ≡ backs_at l v
    all_balanced even v = go (ltb v l.vertices) refl
      where
        go : (b : Bool) → ltb v l.vertices ≡ b → fronts_at l v ≡ backs_at l v
        go true q = even v (ltb-true v l.vertices q)
        go false q = let y = beyond v (ltb-false v l.vertices q) in y.0 ∙ sym y.1

    all_few : AtMostTwo l → (v : ℕ) → fronts_at l v ≤ 2
    all_few few v = go (ltb v l.vertices) refl
      where
        go : (b : Bool) → ltb v l.vertices ≡ b → fronts_at l v ≤ 2
        go true q = few v (ltb-true v l.vertices q)
        go false q = omega (arith, (beyond v (ltb-false v l.vertices q)).0)

    claimed : Claimed (front_in l) (back_in l) (uses_to_walk (given_in l)) (split_wires (given_in l))
    unfolding split_wires given_in
    claimed = table_theorem l.vertices (front_in l) (back_in l) (marked_in (given_in l)) (uses_to_walk (given_in l)) fits

    not_eleven : Balanced l → split_wires (given_in l) ≢ walk.refused 11
    unfolding split_wires given_in
    not_eleven even = table_balanced l.vertices (front_in l) (back_in l) (marked_in (given_in l)) (uses_to_walk (given_in l)) fits (all_balanced even)

    -- the walk refuses
    keeps_refused : (n : ℕ) → split_wires (given_in l) ≡ walk.refused n → KeepsUses l (record { said = refused n; buffers = l.buffers })
    keeps_refused n e =
        record {
          succeeds = λ q even few. let w = claimed.succeeds (all_balanced even) (all_few few) in absurd (no_wires w.0 w.1);
          refuses = λ q v ne. ⊎_elim (λ p. inl (ap refused (number 11 p))) (λ p. inr (ap refused (number 12 p))) (claimed.refuses v ne);
          kept = λ c p. absurd (refused_never n p);
          no_dead_end = λ q even p. not_eleven even (e ∙ ap walk.refused (same p));
        }
      where
        same : ◌≡◌ {A = Said Boundaries} (refused n) (refused 11) → n ≡ 11
        same p = cc

        number : (m : ℕ) → split_wires (given_in l) ≡ walk.refused m → n ≡ m
        number m p = cc

        no_wires : (ws : List (List ℕ)) → split_wires (given_in l) ≡ wires ws → ⊥
        no_wires ws p = let z : ◌≡◌ {A = ℕ} 0 1 = cc in omega arith

    -- the walk answers wires
    keeps_wires : (ws : List (List ℕ)) → split_wires (given_in l) ≡ wires ws → KeepsUses l (split_stored (given_in l) l.buffers ws)
    unfolding split_stored
    keeps_wires ws e =
        record {
          succeeds = λ q even few. (_, refl);
          refuses = λ q v ne. absurd (⊎_elim (never 11) (never 12) (claimed.refuses v ne));
          kept = λ c p. subst (λ (d : Boundaries). Kept l d stored) (result_told said c p) kept;
          no_dead_end = λ q even. other;
        }
      where
        said : Boundaries
        said = record { wires = length ws; uses = length (uses_of ws); edges = length (edges_after (given_in l)) }

        never : (n : ℕ) → split_wires (given_in l) ≡ walk.refused n → ⊥
        never n p = let z : ◌≡◌ {A = ℕ} 0 1 = cc in omega arith

        other : ◌≡◌ {A = Said Boundaries} (result said) (refused 11) → ⊥
        other p = let z : ◌≡◌ {A = ℕ} 0 1 = cc in omega arith

        stored : Buffers
        stored = (split_stored (given_in l) l.buffers ws).buffers

        kept : Kept l said stored
        kept =
            record {
              each = λ u. rw (wires_stored ws l.buffers.us l.buffers.ls) (claimed.each ws e u ∙ counted_all l u);
              all = rw (wires_stored ws l.buffers.us l.buffers.ls) (sym (take-append_seam (uses_of ws) _));
              wire = λ i h. rw (wires_stored ws l.buffers.us l.buffers.ls) (claimed.wire ws e i h);
            }

    keeps_answer : (a : Answer) → split_wires (given_in l) ≡ a → KeepsUses l (after_walk (given_in l) l.buffers a)
    keeps_answer (wires ws) e = keeps_wires ws e
    keeps_answer (walk.refused n) e = keeps_refused n e

  keeps_by : (n : ℕ) → split_cause l ≡ n → KeepsUses l (cause_or n (turned_away l.buffers) (after_walk (given_in l) l.buffers (split_wires (given_in l))))
  keeps_by zero e = keeps_answer e (split_wires (given_in l)) refl
  keeps_by (suc n) e = keeps_cause n e

  pub split_keeps : KeepsUses l (split_outcome l)
  unfolding split_outcome
  split_keeps = keeps_by (split_cause l) refl

  -- and so does a call that leaves what the contract says
  pub call_keeps : (o : SplitOutcome) → o ≡ split_outcome l → KeepsUses l o
  call_keeps o e = subst (KeepsUses l) (sym e) split_keeps

  -- a split has a result, or leaves the slices as they were
  left_by : (n : ℕ) (a : Answer) → let o = cause_or n (turned_away l.buffers) (after_walk (given_in l) l.buffers a) in
      ((c : Boundaries) × (o.said ≡ result c)) ⊎ (o.buffers ≡ l.buffers)
  unfolding split_stored
  left_by zero (wires ws) = inl (_, refl)
  left_by zero (walk.refused n) = inr refl
  left_by (suc n) a = inr refl

  pub split_leaves : ((c : Boundaries) × ((split_outcome l).said ≡ result c)) ⊎ ((split_outcome l).buffers ≡ l.buffers)
  unfolding split_outcome
  split_leaves = left_by (split_cause l) (split_wires (given_in l))
