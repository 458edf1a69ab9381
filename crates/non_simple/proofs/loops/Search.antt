-- Where the loops of `find_loop` and `forget` stand: the table holds the map, and the search that is left finds what the whole one does.
-- Assumes nothing.
use mathlib.Core.Path.{◌≡◌, refl, ap, sym, ◌∙◌}
use mathlib.Core.List.{List, [], ◌∷◌}
use Prim.Native.Nat.{ℕ, zero, suc, ◌+◌, ◌-◌, ◌≤◌, ◌<◌}
use native.Mathlib.Numerals.{add-one}
use native.Mathlib.Omega.{arith}
use native.Mathlib.Decide.{ℕ_discrete}
use lib.ListN.{length, get_or, set, take, drop, length-set, length-drop, drop_of_length-le}
use lib.Seq.{drop-cons, get_or-drop, get_or-set_same, get_or-set_other}
use borrow.Author.Tests.{eq-eqb, ne_eqb}
use Rattle.std.proofs.lemmas.Grind.{common_steps}
use Rattle.std.specs.Prelude.{Option, Some, None}
use Rattle.compress.specs.Records.{edge_of_use}
use Rattle.compress.proofs.Rest.{rest_all}
use Rattle.non_simple.specs.loops.Loop.{nothing, insert, pair, meet, searched, first_repeat, forgotten, remembered, table_after}

-- the edge number at place k
abbrev pub number_at : List ℕ → ℕ → ℕ
number_at wire k = edge_of_use (get_or wire k 0)

-- the uses from place i on, one of them apart
uses_from : (us : List ℕ) (i : ℕ) → i < length us → drop i us ≡ get_or us i 0 ∷ drop (i + 1) us
uses_from us i lt = rw (add-one i) (drop-cons us i 0 lt)

-- ---- `forget`

pub forgetting_turn : (us : List ℕ) (table : List (Option ℕ)) (k : ℕ) → k < length us → forgotten (drop (k + 1) us) (set table (number_at us k) None) ≡ forgotten (drop k us) table
unfolding forgotten
forgetting_turn us table k lt = rw (uses_from us k lt)

-- the uses are those of a slice of the wire, from a place on
pub forgetting_done : (wire : List ℕ) (from : ℕ) (lent table : List (Option ℕ)) (k : ℕ) → length (take (length wire - from) (drop from wire)) ≤ k
    → forgotten (drop k (take (length wire - from) (drop from wire))) table ≡ forgotten (take (length wire - from) (drop from wire)) lent
    → table ≡ forgotten (drop from wire) lent
unfolding forgotten
forgetting_done wire from lent table k h e =
    rw (drop_of_length-le (take (length wire - from) (drop from wire)) h, rest_all wire from) at e

-- an entry that is empty stays so, and that of each use becomes empty
forgotten_still : (us : List ℕ) (table : List (Option ℕ)) (e : ℕ) → ((k : ℕ) → k < length us → number_at us k < length table) → get_or table e None ≡ None
    → get_or (forgotten us table) e None ≡ None
unfolding forgotten
forgotten_still [] table e below z = z
forgotten_still (u ∷ us) table e below z =
    forgotten_still us (set table (edge_of_use u) None) e (λ k h. grind (arith, length-set, below (suc k) (omega arith))) (grind (arith, common_steps, z, below 0 (omega arith)))

forgotten_none : (us : List ℕ) (table : List (Option ℕ)) (k : ℕ) → ((k : ℕ) → k < length us → number_at us k < length table) → k < length us
    → get_or (forgotten us table) (number_at us k) None ≡ None
unfolding forgotten
forgotten_none [] table k below lt = absurd (omega arith)
forgotten_none (u ∷ us) table zero below lt =
    forgotten_still us (set table (edge_of_use u) None) (edge_of_use u) (λ k h. grind (arith, length-set, below (suc k) (omega arith)))
    (get_or-set_same table (edge_of_use u) None None (below 0 (omega arith)))
forgotten_none (u ∷ us) table (suc k) below lt =
    forgotten_none us (set table (edge_of_use u) None) k (λ m h. grind (arith, length-set, below (suc m) (omega arith))) (omega arith)

-- the table as it was lent, to that which the search leaves
pub table_after_is : (wire : List ℕ) (from : ℕ) (lent start places : List (Option ℕ)) → start ≡ forgotten (drop from wire) lent → places ≡ remembered from (drop from wire) start
    → places ≡ table_after from wire lent
unfolding table_after
table_after_is wire from lent start places f r = rw (← f) r

-- ---- `find_loop`

-- the search that is left at place i, one unfolding further
pub searched_first : (map : ℕ → Option ℕ) (i : ℕ) (wire : List ℕ) → i < length wire
    → searched map i (drop i wire) ≡ meet (map (number_at wire i)) i (searched (insert map (number_at wire i) i) (i + 1) (drop (i + 1) wire))
unfolding searched
searched_first map i wire lt = rw (uses_from wire i lt)

pub searched_none : (map : ℕ → Option ℕ) (i : ℕ) (wire : List ℕ) → length wire ≤ i → searched map i (drop i wire) ≡ None
unfolding searched
searched_none map i wire h = rw (drop_of_length-le wire h)

pub insert_same : (map : ℕ → Option ℕ) (e i other : ℕ) → other ≡ e → insert map e i other ≡ Some i
unfolding insert
insert_same map e i other q = rw (eq-eqb other e q)

pub insert_other : (map : ℕ → Option ℕ) (e i other : ℕ) → (other ≡ e → ⊥) → insert map e i other ≡ map other
unfolding insert
insert_other map e i other n = rw (ne_eqb other e n)

-- `map` is that of the uses passed, and `places` holds it for each edge that the search can meet; `lent` is the table as it was lent
pub record Searching (wire : List ℕ) (from : ℕ) (lent places : List (Option ℕ)) (i : ℕ) : Type 0 where
  pub from_le : from ≤ i
  pub edges : (k : ℕ) → k < length wire → number_at wire k < length places
  pub map : ℕ → Option ℕ
  pub holds : (k : ℕ) → from ≤ k → k < length wire → get_or places (number_at wire k) None ≡ map (number_at wire k)
  pub is : searched map i (drop i wire) ≡ first_repeat from wire
  pub table : remembered i (drop i wire) places ≡ table_after from wire lent

module _ (wire : List ℕ) (from : ℕ) (lent : List (Option ℕ)) where
  pub searching_start : (places : List (Option ℕ)) → places ≡ forgotten (drop from wire) lent → length places ≡ length lent
      → ((k : ℕ) → k < length wire → number_at wire k < length lent) → Searching wire from lent places from
  unfolding nothing first_repeat table_after
  searching_start places e l below =
      record {
        from_le = omega arith;
        edges = λ k h. omega (arith, below k h);
        map = nothing;
        holds = λ k a b. rw e (nones k a b);
        is = refl;
        table = rw e;
      }
    where
      number_of : (k : ℕ) → number_at (drop from wire) k ≡ number_at wire (from + k)
      number_of k = ap edge_of_use (get_or-drop from wire k 0)

      nones : (k : ℕ) → from ≤ k → k < length wire → get_or (forgotten (drop from wire) lent) (number_at wire k) None ≡ None
      nones k a b =
          let n : from + (k - from) ≡ k = omega arith in
          let below' : (m : ℕ) → m < length (drop from wire) → number_at (drop from wire) m < length lent
          = λ m g. rw (number_of m) (omega (arith, below (from + m) (omega (arith, length-drop from wire)))) in
          let z = forgotten_none (drop from wire) lent (k - from) below' (omega (arith, length-drop from wire)) in
          rw (number_of (k - from), n) at z

  -- place i is met
  module _ (places : List (Option ℕ)) (i : ℕ) (S : Searching wire from lent places i) (lt : i < length wire) where
    met : (x : Option ℕ) → x ≡ get_or places (number_at wire i) None
        → meet x i (searched (insert S.map (number_at wire i) i) (i + 1) (drop (i + 1) wire)) ≡ first_repeat from wire
    met x q = rw (q, S.holds i S.from_le lt) (sym (searched_first S.map i wire lt) ∙ S.is)

    -- its edge stood before, at place j
    pub searching_found : (j : ℕ) → Some j ≡ get_or places (number_at wire i) None → pair j i ≡ first_repeat from wire
    searching_found j q = met (Some j) q

    pub table_found : (j : ℕ) (places' : List (Option ℕ)) → places' ≡ set places (number_at wire i) (Some i) → Some j ≡ get_or places (number_at wire i) None
        → places' ≡ table_after from wire lent
    unfolding remembered
    table_found j places' e q =
        e ∙ rw (uses_from wire i lt, ← q) at S.table

    -- it did not
    pub searching_turn : (places' : List (Option ℕ)) → places' ≡ set places (number_at wire i) (Some i) → None ≡ get_or places (number_at wire i) None
        → Searching wire from lent places' (i + 1)
    unfolding remembered
    searching_turn places' e q =
        record {
          from_le = omega (arith, S.from_le);
          edges = λ k h. rw (e, length-set places (number_at wire i) (Some i)) (S.edges k h);
          map = insert S.map (number_at wire i) i;
          holds = λ k a b. rw e (holds' k a b (ℕ_discrete (number_at wire k) (number_at wire i)));
          is = met None q;
          table = rw e (rw (uses_from wire i lt, ← q) at S.table);
        }
      where
        holds' : (k : ℕ) → from ≤ k → k < length wire → Dec (number_at wire k ≡ number_at wire i)
            → get_or (set places (number_at wire i) (Some i)) (number_at wire k) None ≡ insert S.map (number_at wire i) i (number_at wire k)
        holds' k a b (yes s) =
            rw (s, get_or-set_same places (number_at wire i) (Some i) None (S.edges i lt)) (sym (insert_same S.map (number_at wire i) i (number_at wire i) refl))
        holds' k a b (no d) =
            rw (get_or-set_other places (number_at wire i) (number_at wire k) (Some i) None d) (S.holds k a b ∙ sym (insert_other S.map (number_at wire i) i (number_at wire k) d))

  -- no place is left
  pub searching_done : (places : List (Option ℕ)) (i : ℕ) → Searching wire from lent places i → length wire ≤ i → None ≡ first_repeat from wire
  searching_done places i S h = sym (searched_none S.map i wire h) ∙ S.is

  pub table_done : (places : List (Option ℕ)) (i : ℕ) → Searching wire from lent places i → length wire ≤ i → places ≡ table_after from wire lent
  unfolding remembered
  table_done places i S h = rw (drop_of_length-le wire h) at S.table

-- ---- the lemmas by which the invariants of the two loops are kept
pub ruleset forgetting = (forgetting_turn, forgetting_done)

pub ruleset searching = (searching_start, searching_turn)
