-- Where `replace_wires` stands: the fronts of its two buffers, with the wires that are left to mend, are the mended wires.
-- Assumes nothing.
use mathlib.Core.Path.{◌≡◌, refl, ap, sym, ◌∙◌}
use mathlib.Core.List.{List, [], ◌∷◌, ◌++◌, append_assoc, append-nil}
use Prim.Native.Nat.{ℕ, suc, ◌+◌, ◌-◌, ◌*◌, ◌/◌, ◌≤◌, ◌<◌}
use native.Mathlib.Numerals.{add-one}
use native.Mathlib.Omega.{arith}
use lib.ListN.{length, get_or, set, take, drop, length-set, length-append}
use lib.Seq.{append_snoc, take-suc-set, length-take-le}
use Rattle.std.specs.Prelude.{Option}
use Rattle.compress.specs.Wires.{total, wires_of, uses_of, lengths_of}
use Rattle.compress.proofs.Rest.{rest_length, rest_front, rest_same}
use Rattle.compress.proofs.Wires.{length_wires, wire_count, uses_lent}
use Rattle.rows.proofs.Each.{AllOf, first_holds, all_wires}
use Rattle.cutting.specs.mending.Replace.{replace_edges, replace_wires}
use Rattle.cutting.specs.mending.Steps.{Replaceable, Mended}
use Rattle.cutting.proofs.mending.Wires.{edges_small}

-- as many wires as before
length_replaced_wires : (added : List (Option ℕ)) (ws : List (List ℕ)) → length (replace_wires added ws) ≡ length ws
unfolding replace_wires
length_replaced_wires added [] = refl
length_replaced_wires added (w ∷ ws) = ap suc (length_replaced_wires added ws)

pub length_replaced : (added : List (Option ℕ)) (us ls : List ℕ) → length (replace_wires added (wires_of us ls)) ≡ length ls
length_replaced added us ls = length_replaced_wires added (wires_of us ls) ∙ length_wires us ls

-- What is asked of a wire where the map has m edges.
abbrev pub Mendable : ℕ → List ℕ → Type 0
Mendable m w = (length w ≤ 1024) × ((k : ℕ) → k < length w → get_or w k 0 / 2 < m)

-- w wires are mended, to `at` uses in the front of the buffer, and the wires `rest` of all are left.
pub record Wiring (added : List (Option ℕ)) (all : List (List ℕ)) (out₀ ol₀ out ol : List ℕ) (w at : ℕ) (rest : List (List ℕ)) : Type 0 where
  pub sound : AllOf (Mendable (length added)) rest
  pub places : w + length rest ≤ length ol₀
  pub count : w + length rest ≡ length all
  pub room : at + length (uses_of rest) * 2 ≤ length out₀
  pub same_out : length out ≡ length out₀
  pub same_ol : length ol ≡ length ol₀
  pub uses : take at out ++ uses_of (replace_wires added rest) ≡ uses_of (replace_wires added all)
  pub lengths : take w ol ++ lengths_of (replace_wires added rest) ≡ lengths_of (replace_wires added all)

pub wiring_start : (us ls : List ℕ) (wires : ℕ) (added : List (Option ℕ)) (out₀ ol₀ : List ℕ) (rest : List (List ℕ)) → Replaceable us ls wires added out₀ ol₀
    → rest ≡ wires_of us (take wires ls) → Wiring added (wires_of us (take wires ls)) out₀ ol₀ out₀ ol₀ 0 0 rest
wiring_start us ls wires added out₀ ol₀ rest R e =
    let c : length (wires_of us (take wires ls)) ≡ wires = wire_count us ls wires R.wires_le in
    let t : length (uses_of (wires_of us (take wires ls))) ≡ total (take wires ls) = uses_lent us (take wires ls) R.lent in
    record {
      sound = rw e (all_wires (λ u. u / 2 < length added) us (take wires ls) 1024 R.lent R.few R.edges);
      places = rw e (omega (arith, c, R.places));
      count = rw e (omega arith);
      room = rw e (omega (arith, t, R.room));
      same_out = refl;
      same_ol = refl;
      uses = rw e refl;
      lengths = rw e refl;
    }

module _ (added : List (Option ℕ)) (all : List (List ℕ)) (out₀ ol₀ out ol : List ℕ) (w at : ℕ) (rest left : List (List ℕ)) (wire : List ℕ)
    (M : Wiring added all out₀ ol₀ out ol w at rest) (e : rest ≡ wire ∷ left) where
  pub mendable : Mendable (length added) wire
  mendable = (first_holds (Mendable (length added)) rest left wire e M.sound).0

  size : length (uses_of rest) ≡ length wire + length (uses_of left)
  unfolding uses_of
  size = rw e (length-append wire (uses_of left))

  count_left : length rest ≡ length left + 1
  count_left = rw e (omega arith)

  pub place_for : w < length ol
  place_for = omega (arith, M.places, count_left, M.same_ol)

  pub lies : at ≤ length out
  lies = omega (arith, M.room, M.same_out)

  -- the part of the buffer from `at` on has two places for each use of the wire
  pub wire_room : length wire * 2 ≤ length (take (length out - at) (drop at out))
  wire_room = omega (arith, rest_length out at, size, M.room, M.same_out)

  pub wire_small : (n : ℕ) → n ≡ length (replace_edges added wire) → n ≤ length wire * 2
  wire_small n q = omega (arith, edges_small added wire)

  -- a turn: the wire was mended to ys, the part of the buffer from `at` on, which has n uses in its front
  pub wiring_turn : (ys : List ℕ) (n : ℕ) → length ys ≡ length (take (length out - at) (drop at out)) → n ≡ length (replace_edges added wire)
      → take n ys ≡ replace_edges added wire
      → Wiring added all out₀ ol₀ (take at out ++ (ys ++ drop (length out - at) (drop at out))) (set ol w n) (w + 1) (at + n) left
  unfolding replace_wires uses_of lengths_of
  wiring_turn ys n ly en ey =
      let small : n ≤ length wire * 2 = wire_small n en in
      let long : length ys ≡ length out - at = ly ∙ rest_length out at in
      let t : take (w + 1) (set ol w n) ≡ take w ol ++ (n ∷ []) = rw (add-one w) (take-suc-set ol w n place_for) in
      record {
        sound = (first_holds (Mendable (length added)) rest left wire e M.sound).1;
        places = omega (arith, M.places, count_left);
        count = omega (arith, M.count, count_left);
        room = omega (arith, M.room, size, small);
        same_out = rest_same out at ys lies long ∙ M.same_out;
        same_ol = length-set ol w n ∙ M.same_ol;
        uses = rw (rest_front out at ys n lies, ey, append_assoc) (rw e at M.uses);
        lengths = rw (t, append_snoc, en) (rw e at M.lengths);
      }

pub wiring_done : (added : List (Option ℕ)) (all : List (List ℕ)) (out₀ ol₀ out ol : List ℕ) (w at : ℕ) (rest : List (List ℕ))
    → Wiring added all out₀ ol₀ out ol w at rest → rest ≡ [] → Mended (replace_wires added all) out ol at
unfolding replace_wires uses_of lengths_of
wiring_done added all out₀ ol₀ out ol w at rest M e =
    let u : take at out ≡ uses_of (replace_wires added all) = sym (append-nil (take at out)) ∙ rw e at M.uses in
    let l : take w ol ≡ lengths_of (replace_wires added all) = sym (append-nil (take w ol)) ∙ rw e at M.lengths in
    let c : w ≡ length all = omega (arith, rw e at M.count) in
    record {
      uses = u;
      count = sym (length-take-le at out (omega (arith, M.room, M.same_out))) ∙ ap length u;
      lengths = rw (length_replaced_wires added all, ← c) l;
    }
