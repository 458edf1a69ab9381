use Rattle.cutting.proofs.mending.Wires.{replaced_more, replaced_done}
use Rattle.cutting.proofs.mending.replace_edges.Goals as goal

pub loop-u-preserved : goal.loop-u-preserved
loop-u-preserved g c =
    let l = c.loop-u in
    replaced_more _ _ _ c.requires.wire_in_bounds l.u-index l.k l.out _ _ _ l.invariant c.loop-u-test.true
    (rw c.cut_off.ensures at c.replace_use.ensures) c.push-k.ensures.0 c.push-k.ensures.1

pub returns : goal.returns
returns g c =
    let l = c.loop-u in
    let d = replaced_done _ _ _ c.requires.wire_in_bounds l.u-index l.k l.out l.invariant c.loop-u-test.false in
    record { value = d.0; out_after = d.1 }

pub replace_use-requires : goal.replace_use-requires
replace_use-requires g c = rw c.cut_off.ensures (c.requires.by_index_2 _)
