-- Document 02, A.1, worked over lent slices: a rim cut at two points and at three, where the parameters may lie, and where 16 and 17 stand among the refusals.
use Rattle.std.specs.Prelude.{◌≡◌, refl, List, [], ◌∷◌, ◌++◌, ℕ, ◌+◌, ◌*◌, replicate, length, Float}
use Rattle.std.specs.Float.Ieee.{of_bits, add, sub, mul, div, neg, lt, le, round}
use Rattle.compress.specs.Constants.{zero64, one64, two64, four64, eight64}
use Rattle.compress.specs.Said.{result}
use Rattle.compress.specs.Layout.{put, store_from, rows}
use Rattle.compress.specs.Rows.{numbers_per_edge, floats_per_edge, numbers_per_vertex, floats_per_vertex, curve_of, edge_of, vertex_of, edge_number_layout, edge_float_layout, vertex_number_layout, vertex_float_layout}
use Rattle.compress.specs.Shell.{Lent, load, store_shell, counts_of, vertices_fit, edges_fit, uses_fit, has_room}
use Rattle.compress.specs.Wires.{total, wires_of, uses_of, lengths_of}
use Rattle.rows.specs.wires.Connected.{replaced}
use Rattle.checks.specs.Causes.{lower_of, lowest_of, float_cause, range_cause, parameter_cause, curve_cause, edge_cause, point_cause, vertex_cause, edge_row_cause, vertex_row_cause, edges_cause, vertices_cause, uses_cause, wires_cause}
use Rattle.cutting.specs.cut_edge.Cut.{halves_of}
use Rattle.cutting.specs.Contract.{Outcome, lent_of, input_cause, turned_away}
use Rattle.pieces.specs.Pieces.{chain_forward, chain_backwards, uses_for, mended, parts_of}
use Rattle.edge_cuts.specs.cuts.Cuts.{cut_cause, cuts_cause, rising}
use Rattle.edge_cuts.specs.Cut.{pieces_at, cut_at_points}
use Rattle.edge_cuts.specs.Contract.{edge_cuts_cause, points_outcome}
use Rattle.several_cuts.specs.Contract.{order_cause, several_outcome}
use Rattle.cases.specs.Cases.{negative_zero64, idle, idle_floats, given_numbers, given_floats, prepared_numbers, span_floats}

-- edge 0 = (a, b) on span 7 from 0 to 8 with a single bevel, between two vertices, with one wire; places for three vertices, three edges and twelve uses more
abbrev pub rim : ℕ → ℕ → List ℕ → Lent
rim a b wire =
    lent_of
    (given_numbers ++ given_numbers ++ idle (3 * numbers_per_vertex))
    (given_floats zero64 zero64 zero64 ++ given_floats eight64 zero64 zero64 ++ idle_floats (3 * floats_per_vertex))
    (prepared_numbers a b 7 1 ++ idle (3 * numbers_per_edge)) (span_floats zero64 eight64 ++ idle_floats (3 * floats_per_edge))
    (wire ++ idle 12) (length wire ∷ []) 2 1 1

-- a cut at t, by the point t, 0, 1
abbrev pub cut_floats : List Float → List Float
cut_floats [] = []
cut_floats (t ∷ ts) = t ∷ t ∷ zero64 ∷ one64 ∷ cut_floats ts

-- the vertices that are added
abbrev pub point_numbers : List Float → List ℕ
point_numbers [] = []
point_numbers (t ∷ ts) = given_numbers ++ point_numbers ts

abbrev pub point_floats : List Float → List Float
point_floats [] = []
point_floats (t ∷ ts) = given_floats t zero64 one64 ++ point_floats ts

-- what a call leaves of the rim: the points of the cuts, the pieces, and the wire; k cuts leave places for 3 - k more
abbrev pub rim_left : List Float → (k spare : ℕ) → List ℕ → List Float → List ℕ → (idle_uses : ℕ) → Outcome
rim_left ts k spare numbers floats wire idle_uses =
    record {
      said = result (record { vertices = 2 + k; edges = 1 + k; uses = length wire });
      slices = record {
        vn = given_numbers ++ given_numbers ++ point_numbers ts ++ idle (spare * numbers_per_vertex);
        vf = given_floats zero64 zero64 zero64 ++ given_floats eight64 zero64 zero64 ++ point_floats ts ++ idle_floats (spare * floats_per_vertex);
        en = numbers ++ idle (spare * numbers_per_edge);
        ef = floats ++ idle_floats (spare * floats_per_edge);
        us = wire ++ idle idle_uses;
        ls = length wire ∷ [];
      };
    }

-- "Edge (a, b) becomes a chain of pieces from a to b": (0, 1) cut at 2 and at 4 is (0, 2), and (2, 3) and (3, 1) are appended, each with the single bevel
abbrev pub three_numbers : List ℕ
three_numbers = prepared_numbers 0 2 7 1 ++ prepared_numbers 2 3 7 1 ++ prepared_numbers 3 1 7 1

abbrev pub three_floats : List Float
three_floats = span_floats zero64 two64 ++ span_floats two64 four64 ++ span_floats four64 eight64

abbrev pub two_ts : List Float
two_ts = two64 ∷ four64 ∷ []

-- "a reversed use the chain backwards": 0- becomes 2- 1- 0-
pub two_reversed : several_outcome (rim 0 1 (1 ∷ [])) 0 (cut_floats two_ts) 2 ≡ rim_left two_ts 2 1 three_numbers three_floats (5 ∷ 3 ∷ 1 ∷ []) 10
unfolding add sub mul div neg lt le round of_bits lower_of lowest_of float_cause range_cause parameter_cause curve_cause edge_cause point_cause vertex_cause edge_row_cause vertex_row_cause edges_cause vertices_cause uses_cause wires_cause put store_from rows curve_of edge_of vertex_of edge_number_layout edge_float_layout vertex_number_layout vertex_float_layout total wires_of uses_of lengths_of load store_shell counts_of vertices_fit edges_fit uses_fit has_room input_cause halves_of replaced chain_forward chain_backwards uses_for mended parts_of cut_cause cuts_cause rising pieces_at cut_at_points edge_cuts_cause points_outcome order_cause several_outcome
two_reversed = refl

-- "A forward use becomes the chain": 0+ 0- becomes 0+ 1+ 2+ 2- 1- 0-
pub two_both_ways : several_outcome (rim 0 1 (0 ∷ 1 ∷ [])) 0 (cut_floats two_ts) 2 ≡ rim_left two_ts 2 1 three_numbers three_floats (0 ∷ 2 ∷ 4 ∷ 5 ∷ 3 ∷ 1 ∷ []) 8
unfolding add sub mul div neg lt le round of_bits lower_of lowest_of float_cause range_cause parameter_cause curve_cause edge_cause point_cause vertex_cause edge_row_cause vertex_row_cause edges_cause vertices_cause uses_cause wires_cause put store_from rows curve_of edge_of vertex_of edge_number_layout edge_float_layout vertex_number_layout vertex_float_layout total wires_of uses_of lengths_of load store_shell counts_of vertices_fit edges_fit uses_fit has_room input_cause halves_of replaced chain_forward chain_backwards uses_for mended parts_of cut_cause cuts_cause rising pieces_at cut_at_points edge_cuts_cause points_outcome order_cause several_outcome
two_both_ways = refl

-- a closed edge, cut three times: the first cut at t0, the last at t1
abbrev pub ends_and_middle : List Float
ends_and_middle = zero64 ∷ four64 ∷ eight64 ∷ []

pub three_of_closed : several_outcome (rim 0 0 (0 ∷ [])) 0 (cut_floats ends_and_middle) 3
    ≡ rim_left ends_and_middle 3 0 (prepared_numbers 0 2 7 1 ++ prepared_numbers 2 3 7 1 ++ prepared_numbers 3 4 7 1 ++ prepared_numbers 4 0 7 1)
    (span_floats zero64 zero64 ++ span_floats zero64 four64 ++ span_floats four64 eight64 ++ span_floats eight64 eight64) (0 ∷ 2 ∷ 4 ∷ 6 ∷ []) 9
unfolding add sub mul div neg lt le round of_bits lower_of lowest_of float_cause range_cause parameter_cause curve_cause edge_cause point_cause vertex_cause edge_row_cause vertex_row_cause edges_cause vertices_cause uses_cause wires_cause put store_from rows curve_of edge_of vertex_of edge_number_layout edge_float_layout vertex_number_layout vertex_float_layout total wires_of uses_of lengths_of load store_shell counts_of vertices_fit edges_fit uses_fit has_room input_cause halves_of replaced chain_forward chain_backwards uses_for mended parts_of cut_cause cuts_cause rising pieces_at cut_at_points edge_cuts_cause points_outcome order_cause several_outcome
three_of_closed = refl

-- no cut changes nothing; but an edge number that is not below the edge count is 3 without a cut too
pub none_unchanged : several_outcome (rim 0 1 (0 ∷ [])) 0 [] 0 ≡ record { said = result (record { vertices = 2; edges = 1; uses = 1 }); slices = (rim 0 1 (0 ∷ [])).slices }
unfolding add sub mul div neg lt le round of_bits lower_of lowest_of float_cause range_cause parameter_cause curve_cause edge_cause point_cause vertex_cause edge_row_cause vertex_row_cause edges_cause vertices_cause uses_cause wires_cause put store_from rows curve_of edge_of vertex_of edge_number_layout edge_float_layout vertex_number_layout vertex_float_layout total wires_of uses_of lengths_of load store_shell counts_of vertices_fit edges_fit uses_fit has_room input_cause halves_of replaced chain_forward chain_backwards uses_for mended parts_of cut_cause cuts_cause rising pieces_at cut_at_points edge_cuts_cause points_outcome order_cause several_outcome
none_unchanged = refl

pub no_such_edge : several_outcome (rim 0 1 (0 ∷ [])) 1 [] 0 ≡ turned_away (rim 0 1 (0 ∷ [])).slices 3
unfolding neg lt le of_bits lower_of lowest_of float_cause range_cause parameter_cause curve_cause edge_cause point_cause vertex_cause edge_row_cause vertex_row_cause edges_cause vertices_cause uses_cause wires_cause curve_of edge_of vertex_of total input_cause cut_cause cuts_cause edge_cuts_cause order_cause rising rows several_outcome
no_such_edge = refl

-- "parameters not strictly rising with 17": falling ones, equal ones, and -0.0 before 0.0, which are equal to IEEE 754's <
pub falling_refused : several_outcome (rim 0 1 (0 ∷ [])) 0 (cut_floats (four64 ∷ two64 ∷ [])) 2 ≡ turned_away (rim 0 1 (0 ∷ [])).slices 17
unfolding neg lt le of_bits lower_of lowest_of float_cause range_cause parameter_cause curve_cause edge_cause point_cause vertex_cause edge_row_cause vertex_row_cause edges_cause vertices_cause uses_cause wires_cause curve_of edge_of vertex_of total input_cause cut_cause cuts_cause edge_cuts_cause order_cause rising rows several_outcome
falling_refused = refl

pub equal_refused : several_outcome (rim 0 1 (0 ∷ [])) 0 (cut_floats (two64 ∷ two64 ∷ [])) 2 ≡ turned_away (rim 0 1 (0 ∷ [])).slices 17
unfolding neg lt le of_bits lower_of lowest_of float_cause range_cause parameter_cause curve_cause edge_cause point_cause vertex_cause edge_row_cause vertex_row_cause edges_cause vertices_cause uses_cause wires_cause curve_of edge_of vertex_of total input_cause cut_cause cuts_cause edge_cuts_cause order_cause rising rows several_outcome
equal_refused = refl

pub zeros_refused : several_outcome (rim 0 1 (0 ∷ [])) 0 (cut_floats (negative_zero64 ∷ zero64 ∷ [])) 2 ≡ turned_away (rim 0 1 (0 ∷ [])).slices 17
unfolding neg lt le of_bits lower_of lowest_of float_cause range_cause parameter_cause curve_cause edge_cause point_cause vertex_cause edge_row_cause vertex_row_cause edges_cause vertices_cause uses_cause wires_cause curve_of edge_of vertex_of total input_cause cut_cause cuts_cause edge_cuts_cause order_cause rising rows several_outcome
zeros_refused = refl

-- "more than 64 cuts with 16": 65 equal ones are 16 and not 17, with one outside the range 5, and where the floats of 64 are lent 1
pub many_refused : several_outcome (rim 0 1 (0 ∷ [])) 0 (cut_floats (replicate 65 two64)) 65 ≡ turned_away (rim 0 1 (0 ∷ [])).slices 16
unfolding neg lt le of_bits lower_of lowest_of float_cause range_cause parameter_cause curve_cause edge_cause point_cause vertex_cause edge_row_cause vertex_row_cause edges_cause vertices_cause uses_cause wires_cause curve_of edge_of vertex_of total input_cause cut_cause cuts_cause edge_cuts_cause order_cause rising rows several_outcome
many_refused = refl

pub many_with_one_outside : several_outcome (rim 0 1 (0 ∷ [])) 0 (cut_floats (replicate 64 two64 ++ (neg one64 ∷ []))) 65 ≡ turned_away (rim 0 1 (0 ∷ [])).slices 5
unfolding neg lt le of_bits lower_of lowest_of float_cause range_cause parameter_cause curve_cause edge_cause point_cause vertex_cause edge_row_cause vertex_row_cause edges_cause vertices_cause uses_cause wires_cause curve_of edge_of vertex_of total input_cause cut_cause cuts_cause edge_cuts_cause order_cause rising rows several_outcome
many_with_one_outside = refl

pub many_not_lent : several_outcome (rim 0 1 (0 ∷ [])) 0 (cut_floats (replicate 64 two64)) 65 ≡ turned_away (rim 0 1 (0 ∷ [])).slices 1
unfolding neg lt le of_bits lower_of lowest_of float_cause range_cause parameter_cause curve_cause edge_cause point_cause vertex_cause edge_row_cause vertex_row_cause edges_cause vertices_cause uses_cause wires_cause curve_of edge_of vertex_of total input_cause cut_cause cuts_cause edge_cuts_cause order_cause rising rows several_outcome
many_not_lent = refl

-- 6 "comes after every number added here or later": four cuts have no room in the tables, and four that fall are 17
pub no_room : several_outcome (rim 0 1 (0 ∷ [])) 0 (cut_floats (zero64 ∷ one64 ∷ two64 ∷ four64 ∷ [])) 4 ≡ turned_away (rim 0 1 (0 ∷ [])).slices 6
unfolding add sub mul div neg lt le round of_bits lower_of lowest_of float_cause range_cause parameter_cause curve_cause edge_cause point_cause vertex_cause edge_row_cause vertex_row_cause edges_cause vertices_cause uses_cause wires_cause put store_from rows curve_of edge_of vertex_of edge_number_layout edge_float_layout vertex_number_layout vertex_float_layout total wires_of uses_of lengths_of load store_shell counts_of vertices_fit edges_fit uses_fit has_room input_cause halves_of replaced chain_forward chain_backwards uses_for mended parts_of cut_cause cuts_cause rising pieces_at cut_at_points edge_cuts_cause points_outcome order_cause several_outcome
no_room = refl

pub order_before_room : several_outcome (rim 0 1 (0 ∷ [])) 0 (cut_floats (four64 ∷ two64 ∷ one64 ∷ zero64 ∷ [])) 4 ≡ turned_away (rim 0 1 (0 ∷ [])).slices 17
unfolding neg lt le of_bits lower_of lowest_of float_cause range_cause parameter_cause curve_cause edge_cause point_cause vertex_cause edge_row_cause vertex_row_cause edges_cause vertices_cause uses_cause wires_cause curve_of edge_of vertex_of total input_cause cut_cause cuts_cause edge_cuts_cause order_cause rising rows several_outcome
order_before_room = refl
