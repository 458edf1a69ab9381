-- Document 02, A.3, worked over lent slices: K1's edge cut an eighth of the way along, and where 18 stands among the refusals.
use Rattle.std.specs.Prelude.{◌≡◌, refl, [], ◌∷◌, Float}
use Rattle.std.specs.Float.{nan}
use Rattle.std.specs.Float.Ieee.{of_bits, of_int, add, sub, mul, div, neg, lt, le, round}
use Rattle.compress.specs.Constants.{zero64, one64, eight64}
use Rattle.compress.specs.Said.{result, refused}
use Rattle.compress.specs.Layout.{put, store_from, rows}
use Rattle.compress.specs.Rows.{curve_of, edge_of, vertex_of, edge_number_layout, edge_float_layout, vertex_number_layout, vertex_float_layout}
use Rattle.compress.specs.Records.{closed}
use Rattle.compress.specs.Shell.{Lent, load, store_shell, counts_of, vertices_fit, edges_fit, uses_fit, has_room}
use Rattle.compress.specs.Wires.{total, wires_of, uses_of, lengths_of}
use Rattle.checks.specs.Causes.{lower_of, lowest_of, float_cause, range_cause, parameter_cause, curve_cause, edge_cause, point_cause, vertex_cause, edge_row_cause, vertex_row_cause, edges_cause, vertices_cause, uses_cause, wires_cause}
use Rattle.cutting.specs.cut_edge.Cut.{halves_of, pending_of}
use Rattle.cutting.specs.parameter.Eighths.{parameter_of, cut_parameter_said}
use Rattle.floats.specs.Exact.{cut_parameter_of}
use Rattle.cutting.specs.Contract.{lent_of, input_cause, turned_away}
use Rattle.cutting.specs.mending.Replace.{replace_use, replace_edges, replace_wires}
use Rattle.split_closed_edges.specs.add_edges.Add.{kept_edges, new_edges, new_vertices, added_to}
use Rattle.split_closed_edges.specs.Pass.{split_closed_edges}
use Rattle.split_closed_edges.specs.Contract.{outcome_of}
use Rattle.cases.specs.Cases.{given_numbers, given_floats, span_numbers, span_floats, rim_with, rim_cut_at, no_edges}

-- "otherwise t0 + (t1 - t0) × k / 8": from 0 to 8 it is 1 for 1
pub cut_at_one : outcome_of 1 (rim_with (0 ∷ [])) ≡ rim_cut_at 0 one64 (0 ∷ 2 ∷ [])
unfolding add sub mul div neg lt le round of_bits of_int lower_of lowest_of float_cause range_cause parameter_cause curve_cause edge_cause point_cause vertex_cause edge_row_cause vertex_row_cause edges_cause vertices_cause uses_cause wires_cause put store_from rows curve_of edge_of vertex_of edge_number_layout edge_float_layout vertex_number_layout vertex_float_layout total wires_of uses_of lengths_of load store_shell counts_of vertices_fit edges_fit uses_fit has_room input_cause closed kept_edges new_edges new_vertices added_to replace_use replace_edges replace_wires cut_parameter_of parameter_of halves_of pending_of split_closed_edges outcome_of
cut_at_one = refl

-- "It refuses k outside 1 to 7 with 18": 0, 8 and the greatest number of 32 bits
pub zero_refused : outcome_of 0 (rim_with (0 ∷ [])) ≡ turned_away (rim_with (0 ∷ [])).slices 18
unfolding neg lt le of_bits lower_of lowest_of float_cause range_cause parameter_cause curve_cause edge_cause point_cause vertex_cause edge_row_cause vertex_row_cause edges_cause vertices_cause uses_cause wires_cause curve_of edge_of vertex_of total input_cause outcome_of
zero_refused = refl

pub eight_refused : outcome_of 8 (rim_with (0 ∷ [])) ≡ turned_away (rim_with (0 ∷ [])).slices 18
unfolding neg lt le of_bits lower_of lowest_of float_cause range_cause parameter_cause curve_cause edge_cause point_cause vertex_cause edge_row_cause vertex_row_cause edges_cause vertices_cause uses_cause wires_cause curve_of edge_of vertex_of total input_cause outcome_of
eight_refused = refl

pub greatest_refused : outcome_of 4294967295 (rim_with (0 ∷ [])) ≡ turned_away (rim_with (0 ∷ [])).slices 18
unfolding neg lt le of_bits lower_of lowest_of float_cause range_cause parameter_cause curve_cause edge_cause point_cause vertex_cause edge_row_cause vertex_row_cause edges_cause vertices_cause uses_cause wires_cause curve_of edge_of vertex_of total input_cause outcome_of
greatest_refused = refl

-- also where no edge is closed
pub refused_without_edges : outcome_of 0 no_edges ≡ turned_away no_edges.slices 18
unfolding neg lt le of_bits lower_of lowest_of float_cause range_cause parameter_cause curve_cause edge_cause point_cause vertex_cause edge_row_cause vertex_row_cause edges_cause vertices_cause uses_cause wires_cause curve_of edge_of vertex_of total input_cause outcome_of
refused_without_edges = refl

-- and where the tables are full, before the 6 that a k from 1 to 7 earns there; but after 5, of a range from t0 to t1
abbrev pub full_rim : Float → Float → Lent
full_rim t0 t1 =
    lent_of given_numbers (given_floats zero64 zero64 zero64) (span_numbers 0 0 7) (span_floats t0 t1) (0 ∷ []) (1 ∷ []) 1 1 1

pub full_refused : outcome_of 0 (full_rim zero64 eight64) ≡ turned_away (full_rim zero64 eight64).slices 18
unfolding neg lt le of_bits lower_of lowest_of float_cause range_cause parameter_cause curve_cause edge_cause point_cause vertex_cause edge_row_cause vertex_row_cause edges_cause vertices_cause uses_cause wires_cause curve_of edge_of vertex_of total input_cause outcome_of
full_refused = refl

pub full_no_room : outcome_of 1 (full_rim zero64 eight64) ≡ turned_away (full_rim zero64 eight64).slices 6
unfolding add sub mul div neg lt le round of_bits of_int lower_of lowest_of float_cause range_cause parameter_cause curve_cause edge_cause point_cause vertex_cause edge_row_cause vertex_row_cause edges_cause vertices_cause uses_cause wires_cause put store_from rows curve_of edge_of vertex_of edge_number_layout edge_float_layout vertex_number_layout vertex_float_layout total wires_of uses_of lengths_of load store_shell counts_of vertices_fit edges_fit uses_fit has_room input_cause closed kept_edges new_edges new_vertices added_to replace_use replace_edges replace_wires cut_parameter_of parameter_of halves_of pending_of split_closed_edges outcome_of
full_no_room = refl

pub range_first : outcome_of 0 (full_rim eight64 zero64) ≡ turned_away (full_rim eight64 zero64).slices 5
unfolding neg lt le of_bits lower_of lowest_of float_cause range_cause parameter_cause curve_cause edge_cause point_cause vertex_cause edge_row_cause vertex_row_cause edges_cause vertices_cause uses_cause wires_cause curve_of edge_of vertex_of total input_cause outcome_of
range_first = refl

-- the helper as a call: 4, 5, then 18
pub parameter_told : cut_parameter_said 1 zero64 eight64 ≡ result one64
unfolding add sub mul div neg lt le round of_bits of_int lower_of float_cause range_cause cut_parameter_of cut_parameter_said
parameter_told = refl

pub parameter_not_sized : cut_parameter_said 0 zero64 nan ≡ refused 4
unfolding neg lt le of_bits lower_of float_cause range_cause cut_parameter_said
parameter_not_sized = refl

pub parameter_out_of_range : cut_parameter_said 0 eight64 zero64 ≡ refused 5
unfolding neg lt le of_bits lower_of float_cause range_cause cut_parameter_said
parameter_out_of_range = refl

pub parameter_of_eight : cut_parameter_said 8 zero64 eight64 ≡ refused 18
unfolding neg lt le of_bits lower_of float_cause range_cause cut_parameter_said
parameter_of_eight = refl
