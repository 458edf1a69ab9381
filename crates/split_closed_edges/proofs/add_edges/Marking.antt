-- Where `mark_closed` stands: the front of the table, with the numbers that are left to give, is the map of `add_edges`.
-- Assumes nothing.
use mathlib.Core.Path.{◌≡◌, refl, sym, ◌∙◌}
use mathlib.Core.Bool.{Bool, true, false}
use mathlib.Core.List.{List, [], ◌∷◌, ◌++◌, append-nil}
use Prim.Native.Nat.{ℕ, ◌+◌, ◌-◌, ◌≤◌, ◌<◌}
use native.Mathlib.Numerals.{add-one}
use native.Mathlib.Omega.{arith}
use lib.ListN.{length, set, take, drop, length-set, take-append-drop}
use lib.Seq.{append_snoc, take-suc-set, drop-set-lt}
use lib.Ieee.{Float}
use Rattle.std.specs.Prelude.{Option, Some, None}
use Rattle.std.specs.Bool.{then_some}
use Rattle.std.specs.Int.{from_bool}
use Rattle.compress.specs.declared.Edge.{Edge}
use Rattle.compress.specs.Records.{closed, pick}
use Rattle.compress.specs.Layout.{rows}
use Rattle.compress.specs.Rows.{edge_at}
use Rattle.compress.proofs.Layouts.{rows_none, rows_first, length_rows}
use Rattle.split_closed_edges.specs.add_edges.Add.{next, added_to}
use Rattle.split_closed_edges.specs.add_edges.Steps.{closed_count, Marked}
use Rattle.split_closed_edges.proofs.add_edges.Edges.{count_first}
use Rattle.split_closed_edges.proofs.add_edges.Adding.{count_step, next_ge}

pub record Marking (count : ℕ) (ns : List ℕ) (added₀ added : List (Option ℕ)) (i m : ℕ) : Type 0 where
  pub i_le : i ≤ count
  pub m_ge : count ≤ m
  pub m_le : m ≤ count + i
  pub same : length added ≡ length added₀
  pub rest : drop count added ≡ drop count added₀
  pub front : (fs : List Float) → take i added ++ added_to m (rows (edge_at ns fs) i (count - i)) ≡ added_to count (rows (edge_at ns fs) 0 count)
  pub m_is : (fs : List Float) → m + closed_count (rows (edge_at ns fs) i (count - i)) ≡ count + closed_count (rows (edge_at ns fs) 0 count)

pub added_first : (m : ℕ) (e : Edge) (es : List Edge) (b : Bool) → b ≡ closed e → added_to m (e ∷ es) ≡ pick b (Some m) None ∷ added_to (next b m) es
unfolding added_to
added_first m e es b q = rw q

-- what the code writes and counts, as the definitions say it
pub then_is : (b : Bool) (m : ℕ) → then_some b m ≡ pick b (Some m) None
then_is true m = refl
then_is false m = refl

pub next_is : (b : Bool) (m : ℕ) → m + from_bool b ≡ next b m
next_is true m = refl
next_is false m = omega arith

next_le : (b : Bool) (m : ℕ) → next b m ≤ m + 1
next_le true m = omega arith
next_le false m = omega arith

module _ (count : ℕ) (ns : List ℕ) (added₀ : List (Option ℕ)) (room : count ≤ length added₀) where
  pub marking_start : Marking count ns added₀ added₀ 0 count
  marking_start =
      let p : count - 0 ≡ count = omega arith in
      record { i_le = omega arith; m_ge = omega arith; m_le = omega arith; same = refl; rest = refl; front = λ fs. rw p; m_is = λ fs. rw p }

  pub marking_turn : (added : List (Option ℕ)) (i m : ℕ) (b : Bool) (x : Option ℕ) (m' : ℕ) → Marking count ns added₀ added i m → i < count
      → ((fs : List Float) → b ≡ closed (edge_at ns fs i)) → x ≡ pick b (Some m) None → m' ≡ next b m
      → Marking count ns added₀ (set added i x) (i + 1) m'
  marking_turn added i m b x m' M lt q ex em =
      let k = count - (i + 1) in
      let t : take (i + 1) (set added i x) ≡ take i added ++ (x ∷ []) = rw (add-one i) (take-suc-set added i x (omega (arith, M.same))) in
      let first : (fs : List Float) → rows (edge_at ns fs) i (count - i) ≡ edge_at ns fs i ∷ rows (edge_at ns fs) (i + 1) k
      = λ fs. rows_first (edge_at ns fs) i (count - i) k (omega arith) in
      record {
        i_le = omega arith;
        m_ge = rw em (next_ge b count m M.m_ge);
        m_le = omega (arith, next_le b m, em, M.m_le);
        same = length-set added i x ∙ M.same;
        rest = drop-set-lt count added i x lt ∙ M.rest;
        front = λ fs.
            let f = rw (first fs, added_first m (edge_at ns fs i) (rows (edge_at ns fs) (i + 1) k) b (q fs)) at (M.front fs) in
            rw (t, em, append_snoc, ex) f;
        m_is = λ fs.
            rw em (count_step b m _ _ _ (count_first (edge_at ns fs i) (rows (edge_at ns fs) (i + 1) k) b (q fs)) (rw (first fs) at (M.m_is fs)));
      }

  pub marking_done : (added : List (Option ℕ)) (i m : ℕ) → Marking count ns added₀ added i m → count ≤ i
      → (fs : List Float) → Marked (rows (edge_at ns fs) 0 count) added₀ added (m - count)
  unfolding added_to closed_count
  marking_done added i m M h fs =
      let p : i ≡ count = omega (arith, M.i_le) in
      let z : count - count ≡ 0 = omega arith in
      let n = rows_none (edge_at ns fs) count in
      let l = length_rows (edge_at ns fs) 0 count in
      let c = rw (p, z, n) at (M.m_is fs) in
      let t : take count added ≡ added_to count (rows (edge_at ns fs) 0 count) = rw (p, z, n, append-nil) at (M.front fs) in
      record {
        map = rw l (sym (take-append-drop count added) ∙ rw (t, M.rest));
        count = omega (arith, c, M.m_ge);
      }
