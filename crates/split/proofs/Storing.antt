-- What the walk left in the lent buffers, with the seams stored, is what the definition says; on a refusal nothing is stored.
-- Assumes nothing.
use Rattle.std.proofs.Common.{◌≡◌, ℕ, ◌+◌, ◌*◌, List, length, Ok, ap, ◌∙◌, arith}
use Rattle.std.specs.Prelude.{Float}
use Rattle.compress.specs.declared.Edge.{Edge}
use Rattle.compress.specs.Layout.{store_from, rows}
use Rattle.compress.specs.Rows.{edge_number_layout, edge_float_layout}
use Rattle.compress.specs.Said.{refused}
use Rattle.compress.specs.Wires.{uses_of}
use Rattle.compress.proofs.Layouts.{length_rows}
use Rattle.compress.proofs.Refused.{refused_never}
use Rattle.walk.specs.declared.Walked.{Walked}
use Rattle.walk.specs.Answered.{WalkOutcome, leaves_walk, walk_outcome}
use Rattle.walk.specs.Walk.{Answer, wires}
use Rattle.walk.specs.Walk as walk
use Rattle.split.specs.seams.Seams.{stop_at, seams_of}
use Rattle.split.specs.split_causes.Causes.{Buffers}
use Rattle.split.specs.Contract.{SplitOutcome, leaves_split}
use Rattle.split.specs.Steps.{after_lent}
use Rattle.split.proofs.Fronts.{length_seams_of}

-- as many seams as pairs
seams_pairs : (surface pairs : ℕ) (ds : List ℕ) (fs : List Float) → length (seams_of surface (rows (stop_at ds fs) 0 (pairs * 2))) ≡ pairs
seams_pairs surface pairs ds fs =
    let l : length (rows (stop_at ds fs) 0 (pairs * 2)) ≡ pairs * 2 = length_rows (stop_at ds fs) 0 (pairs * 2) in
    length_seams_of surface (rows (stop_at ds fs) 0 (pairs * 2)) ∙ rw l (omega arith)

-- the walk is refused, and nothing is stored: what is left is what was lent
pub stored_stop : (b : Buffers) (en' : List ℕ) (ef' : List Float) (us' ls' : List ℕ) (edges : ℕ) (seams : List Edge) (k : ℕ) (a : Answer)
    → ◌≡◌ {A = WalkOutcome} (record { said = refused k; us = us'; ls = ls' }) (walk_outcome a b.us b.ls) → en' ≡ b.en → ef' ≡ b.ef
    → ◌≡◌ {A = SplitOutcome} (record { said = refused k; buffers = record { en = en'; ef = ef'; us = us'; ls = ls' } }) (after_lent b edges seams a)
stored_stop b en' ef' us' ls' edges seams k (wires ws) T een eef = absurd (refused_never k (ap (λ (o : WalkOutcome). o.said) T))
stored_stop b en' ef' us' ls' edges seams k (walk.refused c) T een eef =
    let said = ap (λ (o : WalkOutcome). o.said) T in
    let q : k ≡ c = cc in
    rw (een, eef, ap (λ (o : WalkOutcome). o.us) T, ap (λ (o : WalkOutcome). o.ls) T, q)

-- the wires are made, and a seam is stored for each pair
pub stored : (b : Buffers) (edges surface pairs : ℕ) (ds : List ℕ) (fs : List Float) (a : Answer) {en' : List ℕ} {ef' : List Float} (us' ls' : List ℕ) (w : Walked)
    → leaves_walk (Ok w) us' ls' ≡ walk_outcome a b.us b.ls
    → en' ≡ store_from edge_number_layout b.en edges (seams_of surface (rows (stop_at ds fs) 0 (pairs * 2)))
    → ef' ≡ store_from edge_float_layout b.ef edges (seams_of surface (rows (stop_at ds fs) 0 (pairs * 2)))
    → leaves_split (Ok (record { wires = w.wires; uses = w.uses; edges = edges + pairs })) en' ef' us' ls'
    ≡ after_lent b edges (seams_of surface (rows (stop_at ds fs) 0 (pairs * 2))) a
stored b edges surface pairs ds fs (walk.refused c) us' ls' w T een eef = let q = ap (λ (o : WalkOutcome). o.said) T in cc
stored b edges surface pairs ds fs (wires ws) us' ls' w T een eef =
    let said = ap (λ (o : WalkOutcome). o.said) T in
    let q : w ≡ record { wires = length ws; uses = length (uses_of ws) } = cc in
    rw (q, een, eef, ap (λ (o : WalkOutcome). o.us) T, ap (λ (o : WalkOutcome). o.ls) T, seams_pairs surface pairs ds fs)
