use Rattle.rows.specs.Held.{vertices_in, edges_in}
use Rattle.correction.proofs.nearest.Fronts.{Seeking}
use Rattle.correction.proofs.nearest.nearest_front.Given as goal

abbrev pub invariant-loop-w : goal.invariant-loop-w
invariant-loop-w l = Seeking (edges_in l.tables.edges) (vertices_in l.tables.vertices) l.p l.tables.vertices.count l.u l.us l.w-index l.best
