-- The closed-edge pass, and then one cut of what it left, told of shells alone.
-- Assumes nothing.
use mathlib.Core.Path.{◌≡◌, refl, sym, ◌∙◌}
use mathlib.Core.List.{List, [], ◌∷◌}
use Prim.Native.Nat.{ℕ}
use lib.ListN.{get_or}
use lib.Ieee.{Float}
use Rattle.std.specs.Prelude.{Some}
use Rattle.compress.specs.declared.Counts.{Counts}
use Rattle.compress.specs.declared.Edge.{Edge}
use Rattle.compress.specs.Records.{closed}
use Rattle.compress.specs.Layout.{rows}
use Rattle.compress.specs.Rows.{edge_of}
use Rattle.compress.specs.Said.{result}
use Rattle.compress.specs.Shell.{Lent, load}
use Rattle.compress.proofs.Loading.{edge_loaded}
use Rattle.cutting.specs.Contract.{Outcome, next_lent}
use Rattle.cutting.specs.Keeps.{PreparationsKept}
use Rattle.cutting.specs.parameter.Eighths.{parameter_of}
use Rattle.split_closed_edges.specs.add_edges.Add.{added_to}
use Rattle.split_closed_edges.specs.Pass.{split_closed_edges}
use Rattle.split_closed_edges.specs.Contract.{outcome_of}
use Rattle.split_closed_edges.proofs.Reading.{pass_read}
use Rattle.split_closed_edges.proofs.Preparations.{pass_prepared}
use Rattle.edge_cuts.specs.cuts.Cuts.{cut_at}
use Rattle.one_cut.specs.Cut.{added_at, cut_once}
use Rattle.one_cut.specs.Contract.{cut_outcome}
use Rattle.one_cut.proofs.Preparations.{cut_prepared}
use Rattle.one_cut.proofs.Reading.{cut_few, cut_read}
use Rattle.cases.specs.Cases.{rim_prepared, rim_cut_prepared}
use Rattle.cases.specs.Bevels.{cut_at_four, cut_left, pass_keeps_bevel, cut_keeps_bevel}

-- where both calls tell a result, the slices hold the shell of the pass with its edge i cut
pub pass_then_cut : (k : ℕ) (l : Lent) (c c' : Counts) (o o' : Outcome) (d : Edge) (i : ℕ) (cs : List Float)
    → o ≡ outcome_of k l → o.said ≡ result c → o' ≡ cut_outcome (next_lent o c l.wires) i cs 1 → o'.said ≡ result c'
    → load (next_lent o' c' l.wires) ≡ cut_once (split_closed_edges (parameter_of k) (load l)) i (get_or (split_closed_edges (parameter_of k) (load l)).edges i d) (cut_at cs 0)
pass_then_cut k l c c' o o' d i cs e p e' p' =
    let m = next_lent o c l.wires in
    let q : load m ≡ split_closed_edges (parameter_of k) (load l) = pass_read k l c o e p in
    let lt = (cut_few m i c' cs 1 o' e' p').1 in
    rw (← q) (cut_read m i c' cs 1 o' e' p' refl ∙ rw (edge_loaded m d i lt))

-- ---- the law of preparations, of a pass and of one cut that tell a result: both pieces of K1's edge have its double bevel, or its single one
pub pass_prepared_bevel : PreparationsKept (Some 1 ∷ []) 1 2 (rim_prepared 2 (0 ∷ [])).slices.en (rim_cut_prepared 2 (0 ∷ 2 ∷ [])).slices.en
unfolding load rows added_to closed edge_of
pass_prepared_bevel = pass_prepared 4 (rim_prepared 2 (0 ∷ [])) _ (rim_cut_prepared 2 (0 ∷ 2 ∷ [])) (sym pass_keeps_bevel) refl

pub cut_prepared_bevel : PreparationsKept (Some 1 ∷ []) 1 2 (rim_prepared 1 (0 ∷ [])).slices.en cut_left.slices.en
unfolding added_at
cut_prepared_bevel = cut_prepared (rim_prepared 1 (0 ∷ [])) 0 _ cut_at_four 1 cut_left (sym cut_keeps_bevel) refl refl
