-- What a join answers: one new wire, the first that holds v0, is replaced by a wire as long as it and both open wires together, and every
-- other new wire stands as it did; what is no result leaves both slices as they were. Assumes nothing.
use mathlib.Core.Path.{◌≡◌, refl}
use mathlib.Core.Bool.{Bool, true, false}
use mathlib.Core.List.{List, [], ◌∷◌, ◌++◌}
use Prim.Native.Nat.{ℕ, ◌+◌, ◌<◌}
use native.Mathlib.Omega.{arith}
use borrow.Author.Tests.{ltb-true}
use lib.Dec.{eqb, ltb}
use lib.ListN.{length, get_or, set, length-append, length-drop, length-take, length-set}
use lib.Seq.{get_or-set_same, get_or-set_other}
use Rattle.compress.specs.declared.Edge.{Edge}
use Rattle.compress.specs.Records.{pick}
use Rattle.compress.specs.Said.{Said, result, none, refused, on_result, refused_or}
use Rattle.compress.specs.Shell.{uses_fit}
use Rattle.compress.specs.Wires.{uses_of, lengths_of, over}
use Rattle.rows.specs.wires.Turn.{turned}
use Rattle.join.specs.laying.Places.{index_of, wire_index_of, found_before, closed_by}
use Rattle.join.specs.joined.Joined.{joined_at, joined_to}
use Rattle.join.specs.Join.{connected_at, connected}
use Rattle.join.specs.joined.Outcome.{JoinOutcome, stored_in, join_leaves}
use Rattle.join.specs.Contract.{LentJoin, join_cause, joined_in, join_outcome}

-- however far a wire is turned
size_turned : (i : ℕ) (w : List ℕ) → length (turned i w) ≡ length w
unfolding turned
size_turned i w = simp (length-append, length-drop, length-take) (omega arith)

module _ (es : ℕ → Edge) (v0 : ℕ) where
  -- of the wires ws one is replaced, by a wire that is n longer
  pub record OneReplaced (n : ℕ) (ws ws' : List (List ℕ)) : Type 0 where
    pub place : ℕ
    pub within : place < length ws
    pub holds : place ≡ wire_index_of es v0 ws
    pub count : length ws' ≡ length ws
    pub others : (k : ℕ) → (k ≡ place → ⊥) → get_or ws' k [] ≡ get_or ws k []
    pub size : length (get_or ws' place []) ≡ n + length (get_or ws place [])

  abbrev pub ReplacesOne : ℕ → List (List ℕ) → Said (List (List ℕ)) → Type 0
  ReplacesOne n ws (result ws') = OneReplaced n ws ws'
  ReplacesOne n ws none = Unit
  ReplacesOne n ws (refused k) = Unit

  set_replaces : (n : ℕ) (ws : List (List ℕ)) (w : ℕ) (joined : List ℕ) → w < length ws → w ≡ wire_index_of es v0 ws
      → length joined ≡ n + length (get_or ws w []) → OneReplaced n ws (set ws w joined)
  set_replaces n ws w joined h e l =
      record {
        place = w;
        within = h;
        holds = e;
        count = length-set ws w joined;
        others = λ k ne. get_or-set_other ws w k joined [] ne;
        size = rw (get_or-set_same ws w joined [] h) l;
      }

  -- what is not found is "none", and what is found is answered
  found_replaces : (n : ℕ) (ws : List (List ℕ)) (end i : ℕ) (f : ℕ → Said (List (List ℕ))) → (i < end → ReplacesOne n ws (f i))
      → ReplacesOne n ws (on_result (found_before end i) f)
  found_replaces n ws end i f h = by_test (ltb i end) (ltb-true i end)
    where
      by_test : (b : Bool) → (b ≡ true → i < end) → ReplacesOne n ws (on_result (pick b (result i) none) f)
      by_test true k = h (k refl)
      by_test false k = tt

  module _ (v1 : ℕ) where
    at_replaces : (first second : List ℕ) (ws : List (List ℕ)) (w : ℕ) → w < length ws → w ≡ wire_index_of es v0 ws
        → ReplacesOne (length first + length second) ws (joined_at es v0 v1 first second ws w)
    unfolding joined_at closed_by
    at_replaces first second ws w h e = by_test (ltb (index_of es v1 wire) (length wire))
      where
        new : List ℕ
        new = get_or ws w []

        wire : List ℕ
        wire = first ++ turned (index_of es v0 new) new

        l : ℕ
        l = index_of es v1 wire

        longer : length (turned l wire ++ second) ≡ length first + length second + length new
        longer = simp (length-append, size_turned) (omega arith)

        by_test : (b : Bool)
            → ReplacesOne (length first + length second) ws
            (on_result (on_result (pick b (result l) none) (λ k. result (turned k wire ++ second))) (λ joined. result (set ws w joined)))
        by_test true = set_replaces (length first + length second) ws w (turned l wire ++ second) h e longer
        by_test false = tt

    to_replaces : (first second : List ℕ) (ws : List (List ℕ)) → ReplacesOne (length first + length second) ws (joined_to es v0 v1 first second ws)
    unfolding joined_to
    to_replaces first second ws =
        let n = length first + length second in
        let j = index_of es v1 second in
        let w = wire_index_of es v0 ws in
        found_replaces n ws (length second) j _
        (λ a. found_replaces n ws (length ws) w _ (λ b. rw (size_turned j second) at (at_replaces first (turned j second) ws w b refl)))

    connected_at_replaces : (first second : List ℕ) (ws : List (List ℕ)) (i index : ℕ)
        → ReplacesOne (length first + length second) ws (connected_at es v0 v1 first second ws i index)
    unfolding connected_at
    connected_at_replaces first second ws i index = by_test (eqb index 0)
      where
        turned_first : (a b : List ℕ) → length a + length b ≡ length first + length second
            → ReplacesOne (length first + length second) ws (joined_to es v0 v1 (turned i a) b ws)
        turned_first a b e = rw (size_turned i a, e) at (to_replaces (turned i a) b ws)

        by_test : (b : Bool) → ReplacesOne (length first + length second) ws (joined_to es v0 v1 (turned i (pick b first second)) (pick b second first) ws)
        by_test true = turned_first first second refl
        by_test false = turned_first second first (omega arith)

    -- the join: its answer, where it has one, has one new wire replaced, and the joined wire is as long as the wires that it is made of
    pub connected_replaces : (first second : List ℕ) (ws : List (List ℕ)) → ReplacesOne (length first + length second) ws (connected es v0 v1 first second ws)
    unfolding connected
    connected_replaces first second ws =
        let i = wire_index_of es v0 (first ∷ second ∷ []) in
        found_replaces (length first + length second) ws 2 i _
        (λ h. connected_at_replaces first second ws i (index_of es v0 (get_or (first ∷ second ∷ []) i [])))

-- ---- the call: what is not a result leaves both slices as they were
abbrev pub Keeps : List ℕ → List ℕ → JoinOutcome → Said ℕ → Type 0
Keeps us ls o (result n) = Unit
Keeps us ls o none = (o.us ≡ us) × (o.ls ≡ ls)
Keeps us ls o (refused n) = (o.us ≡ us) × (o.ls ≡ ls)

module _ (us ls : List ℕ) where
  stored_keeps : (ws : List (List ℕ)) → Keeps us ls (stored_in us ls ws) (stored_in us ls ws).said
  unfolding stored_in
  stored_keeps ws = by_test (uses_fit us (length (uses_of ws)))
    where
      room : JoinOutcome
      room = record { said = result (length (uses_of ws)); us = over (uses_of ws) us; ls = over (lengths_of ws) ls }

      full : JoinOutcome
      full = record { said = refused 6; us = us; ls = ls }

      by_test : (b : Bool) → Keeps us ls (pick b room full) (pick b room full).said
      by_test true = tt
      by_test false = (refl, refl)

  leaves_keeps : (s : Said (List (List ℕ))) → Keeps us ls (join_leaves us ls s) (join_leaves us ls s).said
  leaves_keeps (result ws) = stored_keeps ws
  leaves_keeps none = (refl, refl)
  leaves_keeps (refused n) = (refl, refl)

pub call_keeps : (l : LentJoin) → Keeps l.us l.ls (join_outcome l) (join_outcome l).said
unfolding join_outcome
call_keeps l = leaves_keeps l.us l.ls (refused_or (join_cause l) (joined_in l))
