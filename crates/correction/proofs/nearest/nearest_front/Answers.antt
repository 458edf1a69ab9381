use Rattle.correction.proofs.nearest.Fronts.{front_below, edge_row, vertex_row, seeking_start, seeking_turn, seeking_done}
use Rattle.correction.proofs.nearest.nearest_front.Goals as goal

pub point_at-from-requires : goal.point_at-from-requires
point_at-from-requires c = vertex_row c.args.tables.now _ c.requires.p_in_table

pub front-first-requires : goal.front-first-requires
front-first-requires c = edge_row c.args.tables.now _ c.requires.u_in_table

pub away_at-best-requires : goal.away_at-best-requires
away_at-best-requires c = vertex_row c.args.tables.now _ (front_below c.args.tables.now _ _ c.requires.u_in_table c.front-first.ensures)

pub front-v-requires : goal.front-v-requires
front-v-requires c = edge_row c.args.tables.now _ (c.requires.us_in_table c.loop-w.w-index c.loop-w-test.true)

pub away_at-requires : goal.away_at-requires
away_at-requires c =
    let u = c.requires.us_in_table c.loop-w.w-index c.loop-w-test.true in
    vertex_row c.args.tables.now _ (front_below c.args.tables.now _ _ u c.front-v.ensures)

pub loop-w-init : goal.loop-w-init
loop-w-init c =
    seeking_start _ _ _ _ _ _ _ _ c.front-first.ensures
    (front_below c.args.tables.now _ _ c.requires.u_in_table c.front-first.ensures) (rw c.point_at-from.ensures at c.away_at-best.ensures)

pub loop-w-preserved : goal.loop-w-preserved
loop-w-preserved c =
    let l = c.loop-w in
    let u = c.requires.us_in_table l.w-index c.loop-w-test.true in
    seeking_turn _ _ _ _ _ _ l.w-index _ l.best _ l.invariant c.loop-w-test.true c.front-v.ensures
    (front_below c.args.tables.now _ _ u c.front-v.ensures) (rw (c.away_at.ensures, c.point_at-from.ensures) at c.nearer-best.ensures)

pub returns-clause-value : goal.returns-clause-value
returns-clause-value c = seeking_done _ _ _ _ _ _ c.loop-w.w-index c.loop-w.best c.loop-w.invariant c.loop-w-test.false
