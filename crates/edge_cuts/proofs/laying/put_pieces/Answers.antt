use Rattle.std.proofs.Common.{sym, ◌∙◌, arith}
use Rattle.compress.specs.Rows.{edge_number_layout, edge_float_layout}
use Rattle.rows.proofs.Same.{same_table_then}
use Rattle.edge_cuts.specs.cuts.Cuts.{cut_at}
use Rattle.edge_cuts.proofs.laying.Laying.{pieces_turn, pieces_done}
use Rattle.edge_cuts.proofs.laying.put_pieces.Goals as goal

pub loop-k-preserved : goal.loop-k-preserved
loop-k-preserved c =
    let I = c.loop-k.invariant in
    let at = cut_at c.args.cuts.now.floats.now in
    let m = c.args.edges.now.count in
    let s = same_table_then I.same c.put.ensures.same in
    let h = rw c.at.ensures at c.both_halves-halves.ensures in
    let p = rw h at c.put.ensures in
    record {
      row = rw s.count (omega arith);
      numbers = rw (s.count, h, p.numbers_after) (sym (pieces_turn edge_number_layout at m c.args.n _ _ _ c.loop-k.rest c.loop-k.edges.numbers.now c.loop-k-test.true) ∙ I.numbers);
      floats = rw (s.count, h, p.floats_after) (sym (pieces_turn edge_float_layout at m c.args.n _ _ _ c.loop-k.rest c.loop-k.edges.floats.now c.loop-k-test.true) ∙ I.floats);
      same = s;
    }

pub returns-clause-numbers_after : goal.returns-clause-numbers_after
returns-clause-numbers_after c =
    c.put-2.ensures.numbers_after
    ∙ sym (pieces_done edge_number_layout (cut_at c.args.cuts.now.floats.now) c.args.edges.now.count c.args.n _ _ _ c.loop-k.rest c.loop-k.edges.numbers.now c.loop-k-test.false)
    ∙ c.loop-k.invariant.numbers

pub returns-clause-floats_after : goal.returns-clause-floats_after
returns-clause-floats_after c =
    c.put-2.ensures.floats_after
    ∙ sym (pieces_done edge_float_layout (cut_at c.args.cuts.now.floats.now) c.args.edges.now.count c.args.n _ _ _ c.loop-k.rest c.loop-k.edges.floats.now c.loop-k-test.false)
    ∙ c.loop-k.invariant.floats
