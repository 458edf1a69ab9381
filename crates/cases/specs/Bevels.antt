-- Document 02, A.5, worked over lent slices: K1's edge with another preparation, cut by the pass and by one cut, and a number that is no preparation.
use Rattle.std.specs.Prelude.{◌≡◌, refl, List, [], ◌∷◌, Float}
use Rattle.std.specs.Float.Ieee.{of_bits, add, mul, div, neg, lt, le, round}
use Rattle.compress.specs.Constants.{zero64, four64}
use Rattle.compress.specs.Layout.{put, store_from, rows}
use Rattle.compress.specs.Rows.{curve_of, edge_of, vertex_of, edge_number_layout, edge_float_layout, vertex_number_layout, vertex_float_layout}
use Rattle.compress.specs.Records.{closed}
use Rattle.compress.specs.Shell.{load, store_shell, counts_of, vertices_fit, edges_fit, uses_fit, has_room}
use Rattle.compress.specs.Wires.{total, wires_of, uses_of, lengths_of}
use Rattle.checks.specs.Causes.{lower_of, lowest_of, float_cause, range_cause, parameter_cause, curve_cause, edge_cause, point_cause, vertex_cause, edge_row_cause, vertex_row_cause, edges_cause, vertices_cause, uses_cause, wires_cause}
use Rattle.cutting.specs.cut_edge.Cut.{halves_of, pending_of}
use Rattle.cutting.specs.parameter.Eighths.{parameter_of}
use Rattle.floats.specs.Exact.{cut_parameter_of}
use Rattle.cutting.specs.Contract.{Outcome, input_cause, turned_away}
use Rattle.cutting.specs.mending.Replace.{replace_use, replace_edges, replace_wires}
use Rattle.split_closed_edges.specs.add_edges.Add.{kept_edges, new_edges, new_vertices, added_to}
use Rattle.split_closed_edges.specs.Pass.{split_closed_edges}
use Rattle.split_closed_edges.specs.Contract.{outcome_of}
use Rattle.edge_cuts.specs.cuts.Cuts.{cut_cause, cuts_cause}
use Rattle.one_cut.specs.Cut.{added_at, cut_once}
use Rattle.edge_cuts.specs.Contract.{edge_cuts_cause}
use Rattle.one_cut.specs.Contract.{once_outcome, cut_outcome}
use Rattle.cases.specs.Cases.{given_numbers, given_floats, rim_prepared, rim_left, rim_cut_prepared}

-- "Every call that cuts an edge gives each piece the preparation of the old one": a double bevel in the pass
pub pass_keeps_bevel : outcome_of 4 (rim_prepared 2 (0 ∷ [])) ≡ rim_cut_prepared 2 (0 ∷ 2 ∷ [])
unfolding add mul div neg lt le round of_bits lower_of lowest_of float_cause range_cause parameter_cause curve_cause edge_cause point_cause vertex_cause edge_row_cause vertex_row_cause edges_cause vertices_cause uses_cause wires_cause put store_from rows curve_of edge_of vertex_of edge_number_layout edge_float_layout vertex_number_layout vertex_float_layout total wires_of uses_of lengths_of load store_shell counts_of vertices_fit edges_fit uses_fit has_room input_cause closed kept_edges new_edges new_vertices added_to replace_use replace_edges replace_wires cut_parameter_of parameter_of halves_of pending_of split_closed_edges outcome_of
pass_keeps_bevel = refl

-- and a single bevel in one cut, at 4, by the point 0, 0, 0
abbrev pub cut_at_four : List Float
cut_at_four = four64 ∷ zero64 ∷ zero64 ∷ zero64 ∷ []

abbrev pub cut_left : Outcome
cut_left = rim_left 1 four64 given_numbers (given_floats zero64 zero64 zero64) (0 ∷ 2 ∷ [])

pub cut_keeps_bevel : cut_outcome (rim_prepared 1 (0 ∷ [])) 0 cut_at_four 1 ≡ cut_left
unfolding add mul div neg lt le round of_bits lower_of lowest_of float_cause range_cause parameter_cause curve_cause edge_cause point_cause vertex_cause edge_row_cause vertex_row_cause edges_cause vertices_cause uses_cause wires_cause put store_from rows curve_of edge_of vertex_of edge_number_layout edge_float_layout vertex_number_layout vertex_float_layout total wires_of uses_of lengths_of load store_shell counts_of vertices_fit edges_fit uses_fit has_room input_cause replace_use replace_edges replace_wires halves_of cut_cause cuts_cause added_at cut_once edge_cuts_cause once_outcome cut_outcome
cut_keeps_bevel = refl

-- "any other earns 1"
pub unknown_refused : outcome_of 4 (rim_prepared 3 (0 ∷ [])) ≡ turned_away (rim_prepared 3 (0 ∷ [])).slices 1
unfolding neg lt le of_bits lower_of lowest_of float_cause range_cause curve_cause edge_cause point_cause vertex_cause edge_row_cause vertex_row_cause edges_cause vertices_cause uses_cause wires_cause curve_of edge_of vertex_of total input_cause outcome_of
unknown_refused = refl
