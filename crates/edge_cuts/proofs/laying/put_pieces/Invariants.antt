use Rattle.std.specs.Prelude.{◌≡◌, ◌+◌, ◌-◌, ◌<◌}
use Rattle.compress.specs.Layout.{rows}
use Rattle.compress.specs.Rows.{edge_number_layout, edge_float_layout}
use Rattle.rows.specs.Held.{edge_in}
use Rattle.rows.specs.Places.{SameTable}
use Rattle.edge_cuts.specs.Cut.{pieces_at}
use Rattle.edge_cuts.specs.cuts.Cuts.{cut_at, cuts_in}
use Rattle.edge_cuts.specs.laying.Laid.{laid_from}
use Rattle.edge_cuts.proofs.laying.put_pieces.Given as goal

abbrev pub invariant-loop-k : goal.invariant-loop-k
invariant-loop-k l =
    let e = l.initial.edges in
    let i = l.cuts.edge in
    let all = pieces_at (edge_in e i) (cuts_in l.cuts) l.n in
    let left = pieces_at l.rest (rows (cut_at l.cuts.floats.now) l.k (l.cuts.count - l.k)) (l.n + l.k) in
    record {
      row : l.row < e.count + l.k;
      numbers : laid_from edge_number_layout l.edges.numbers.now l.row (e.count + l.k) left
          ≡ laid_from edge_number_layout e.numbers.now i e.count all;
      floats : laid_from edge_float_layout l.edges.floats.now l.row (e.count + l.k) left
          ≡ laid_from edge_float_layout e.floats.now i e.count all;
      same : SameTable e l.edges;
    }
