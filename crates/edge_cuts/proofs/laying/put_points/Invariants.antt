use Rattle.std.specs.Prelude.{◌≡◌, ◌+◌, ◌-◌}
use Rattle.compress.specs.Layout.{store_from, rows}
use Rattle.compress.specs.Rows.{vertex_number_layout, vertex_float_layout}
use Rattle.rows.specs.Places.{SameTable}
use Rattle.edge_cuts.specs.Cut.{points_of}
use Rattle.edge_cuts.specs.cuts.Cuts.{cut_at, cuts_in}
use Rattle.edge_cuts.proofs.laying.put_points.Given as goal

abbrev pub invariant-loop-j : goal.invariant-loop-j
invariant-loop-j l =
    let v = l.initial.vertices in
    let left = points_of (rows (cut_at l.cuts.floats.now) l.j (l.cuts.count - l.j)) in
    record {
      numbers : store_from vertex_number_layout l.vertices.numbers.now (v.count + l.j) left
          ≡ store_from vertex_number_layout v.numbers.now v.count (points_of (cuts_in l.cuts));
      floats : store_from vertex_float_layout l.vertices.floats.now (v.count + l.j) left
          ≡ store_from vertex_float_layout v.floats.now v.count (points_of (cuts_in l.cuts));
      same : SameTable v l.vertices;
    }
