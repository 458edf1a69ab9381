use Rattle.std.proofs.Common.{sym, ◌∙◌}
use Rattle.compress.specs.Rows.{vertex_number_layout, vertex_float_layout}
use Rattle.rows.proofs.Same.{same_table_then}
use Rattle.edge_cuts.specs.cuts.Cuts.{cut_at}
use Rattle.edge_cuts.proofs.laying.Laying.{points_turn, points_done}
use Rattle.edge_cuts.proofs.laying.put_points.Goals as goal

pub loop-j-preserved : goal.loop-j-preserved
loop-j-preserved c =
    let I = c.loop-j.invariant in
    let at = cut_at c.args.cuts.now.floats.now in
    let p = rw (c.from.ensures, c.at.ensures, I.same.count) at c.put.ensures in
    let n = c.args.vertices.now.count in
    record {
      numbers = rw p.numbers_after (sym (points_turn vertex_number_layout at n _ _ c.loop-j.vertices.numbers.now c.loop-j-test.true) ∙ I.numbers);
      floats = rw p.floats_after (sym (points_turn vertex_float_layout at n _ _ c.loop-j.vertices.floats.now c.loop-j-test.true) ∙ I.floats);
      same = same_table_then I.same c.put.ensures.same;
    }

pub returns-clause-numbers_after : goal.returns-clause-numbers_after
returns-clause-numbers_after c =
    sym (points_done vertex_number_layout (cut_at c.args.cuts.now.floats.now) c.args.vertices.now.count _ _ c.loop-j.vertices.numbers.now c.loop-j-test.false) ∙ c.loop-j.invariant.numbers

pub returns-clause-floats_after : goal.returns-clause-floats_after
returns-clause-floats_after c =
    sym (points_done vertex_float_layout (cut_at c.args.cuts.now.floats.now) c.args.vertices.now.count _ _ c.loop-j.vertices.floats.now c.loop-j-test.false) ∙ c.loop-j.invariant.floats
