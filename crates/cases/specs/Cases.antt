-- The worked cases of document 01, K1 to K13, as calls over lent slices, and one claim: each holds of the outcome that the call's contract names. So a case
-- says the answer, every slice, and with the answer the checks that are passed. Behind all that a case needs, and in each cell that a record does not have,
-- stands what no check passes: 99, and not a number. "Entries past a result keep what they held" is part of each case.
use Rattle.std.specs.Prelude.{◌≡◌, refl, Option, Some, None, List, [], ◌∷◌, ◌++◌, ℕ, ◌+◌, ◌*◌, length, replicate, Float}
use Rattle.std.specs.Float.{nan, binary64}
use Rattle.std.specs.Float.Ieee.{of_bits, add, sub, mul, div, neg, lt, le, round}
use Rattle.compress.specs.Constants.{zero64, one64, two64, four64, eight64}
use Rattle.compress.specs.declared.Uv.{Uv}
use Rattle.compress.specs.Layout.{put, store_from, rows}
use Rattle.compress.specs.Rows.{numbers_per_edge, floats_per_edge, numbers_per_vertex, floats_per_vertex, curve_of, edge_of, vertex_of, edge_number_layout, edge_float_layout, vertex_number_layout, vertex_float_layout}
use Rattle.compress.specs.Records.{closed, front_of, back_of, front_at, back_at}
use Rattle.compress.specs.Said.{Said, result, none, refused}
use Rattle.compress.specs.Shell.{Lent, load, store_shell, counts_of, vertices_fit, edges_fit, uses_fit, has_room}
use Rattle.compress.specs.Wires.{total, wires_of, uses_of, lengths_of}
use Rattle.checks.specs.Causes.{lower_of, lowest_of, float_cause, range_cause, parameter_cause, period_cause, uv_cause, curve_cause, edge_cause, point_cause, vertex_cause, edge_row_cause, vertex_row_cause, edges_cause, vertices_cause, pending_cause, uses_cause, wires_cause}
use Rattle.checks.specs.points.Tables.{tables_cause}
use Rattle.cutting.specs.cut_edge.Cut.{halves_of, pending_of}
use Rattle.cutting.specs.parameter.Eighths.{parameter_of}
use Rattle.floats.specs.Exact.{cut_parameter_of}
use Rattle.cutting.specs.Contract.{Outcome, lent_of, input_cause}
use Rattle.split_closed_edges.specs.add_edges.Add.{kept_edges, new_edges, new_vertices, added_to}
use Rattle.cutting.specs.mending.Replace.{replace_use, replace_edges, replace_wires}
use Rattle.split_closed_edges.specs.Pass.{split_closed_edges}
use Rattle.split_closed_edges.specs.Contract.{outcome_of}
use Rattle.compress.specs.Choice.{smaller}
use Rattle.periodic.specs.Unwrap.{away_from, nearest_of, unwrapped, period_cause_of, unwrap_cause, get_mindiff}
use Rattle.correction.specs.declared.nearest.Ends.{Ends}
use Rattle.compress.specs.Points.{point_of}
use Rattle.correction.specs.nearest.Ends.{point_gap, gap_from, fronts_of, nearest_front, nearest_ends}
use Rattle.rows.specs.wires.Turn.{turned}
use Rattle.non_simple.specs.loops.Loop.{nothing, insert, searched, first_repeat}
use Rattle.non_simple.specs.divisor.Divided.{second_pair, divided_by, turned_divisor}
use Rattle.non_simple.specs.Search.{wire_divisor, find_divisor, search_cause, find_non_simple}
use Rattle.periodic.specs.Copies.{nearest_copy_of, copy_cause, nearest_copy_said}
use Rattle.compress.specs.Worked.{k9_wire}
use Rattle.walk.specs.Table.{steps, opened, table_walk}
use Rattle.split.specs.seams.Seams.{seam_of, seams_of, stands, repeats_after}
use Rattle.split.specs.seams.Stops.{stop_cause, stops_cause}
use Rattle.walk.specs.marks.Marks.{new_uses, occurs, marked_by}
use Rattle.split.specs.Split.{split_wires}
use Rattle.split.specs.split_causes.Causes.{Buffers, LentSplit, split_wires_cause, split_input_cause, room_cause, split_cause}
use Rattle.split.specs.Contract.{SplitOutcome, given_in, split_stored, split_outcome}

-- ---- the numbers of the cases
abbrev pub negative_zero64 : Float
negative_zero64 = of_bits binary64 0x8000_0000_0000_0000

abbrev pub half64 : Float
half64 = of_bits binary64 0x3fe0_0000_0000_0000

-- 4.5
abbrev pub four_and_half64 : Float
four_and_half64 = of_bits binary64 0x4012_0000_0000_0000

abbrev pub six64 : Float
six64 = of_bits binary64 0x4018_0000_0000_0000

-- ---- what the slices hold

-- entries that no case asks for
abbrev pub idle : ℕ → List ℕ
idle n = replicate n 99

abbrev pub idle_floats : ℕ → List Float
idle_floats n = replicate n nan

-- a given vertex: its kind, and its point
abbrev pub given_numbers : List ℕ
given_numbers = 0 ∷ 99 ∷ 99 ∷ []

abbrev pub given_floats : Float → Float → Float → List Float
given_floats x y z = x ∷ y ∷ z ∷ nan ∷ nan ∷ nan ∷ nan ∷ []

-- a vertex pending on a span: its kind, and that of the span with its number; the ends of the span and the parameter
abbrev pub pending_numbers : ℕ → List ℕ
pending_numbers n = 1 ∷ 0 ∷ n ∷ []

abbrev pub pending_floats : Float → Float → Float → List Float
pending_floats t0 t1 t = nan ∷ nan ∷ nan ∷ nan ∷ t0 ∷ t1 ∷ t ∷ []

-- an edge with a span: its two vertices, the kind of the span, its number, and the preparation; the ends of the span
abbrev pub prepared_numbers : ℕ → ℕ → ℕ → ℕ → List ℕ
prepared_numbers front back n p = front ∷ back ∷ 0 ∷ n ∷ p ∷ []

-- document 02, A.5: "A new seam edge is square, and so are the edges in 01's K cases."
abbrev pub span_numbers : ℕ → ℕ → ℕ → List ℕ
span_numbers front back n = prepared_numbers front back n 0

abbrev pub span_floats : Float → Float → List Float
span_floats t0 t1 = nan ∷ nan ∷ nan ∷ nan ∷ t0 ∷ t1 ∷ []

-- an edge of curve 0 from 0 to 1
abbrev pub plain_numbers : ℕ → ℕ → List ℕ
plain_numbers front back = span_numbers front back 0

abbrev pub plain_floats : List Float
plain_floats = span_floats zero64 one64

-- ---- a call, what it is lent, and what it answers and leaves
pub data Case : Type 0 where
  closed_edges : (k : ℕ) → Lent → Outcome → Case
  unwrapping : (u u0 : Float) → Option Float → Said Float → Case
  searching : Lent → Said Ends → Case
  splitting : LentSplit → SplitOutcome → Case
  copying : (p q : Uv) → (up vp : Option Float) → Said Uv → Case

-- what a case says of the outcome of its call
abbrev pub holds : Case → Type 0
holds (closed_edges k lent answer) = outcome_of k lent ≡ answer
holds (unwrapping u u0 period answer) = get_mindiff u u0 period ≡ answer
holds (searching lent answer) = find_non_simple lent ≡ answer
holds (splitting lent answer) = split_outcome lent ≡ answer
holds (copying p q up vp answer) = nearest_copy_said p q up vp ≡ answer

abbrev pub all_hold : List Case → Type 0
all_hold [] = Unit
all_hold (c ∷ cs) = holds c × all_hold cs

-- ---- the cases

-- one given vertex, edge 0 = (0, 0) with span 7 from 0 to 8, and one wire; places for two vertices and two edges more, and for twice the uses and two more.
-- A use: forward 2 * edge, reversed 2 * edge + 1
abbrev pub rim_prepared : ℕ → List ℕ → Lent
rim_prepared p wire =
    lent_of
    (given_numbers ++ idle (2 * numbers_per_vertex)) (given_floats zero64 zero64 zero64 ++ idle_floats (2 * floats_per_vertex))
    (prepared_numbers 0 0 7 p ++ idle (2 * numbers_per_edge)) (span_floats zero64 eight64 ++ idle_floats (2 * floats_per_edge))
    (wire ++ idle (length wire + 2)) (length wire ∷ idle 1)
    1 1 1

abbrev pub rim_with : List ℕ → Lent
rim_with wire = rim_prepared 0 wire

-- edge 0 = (0, 1) from 0 to t, edge 1 = (1, 0) from t to 8, vertex 1 with these cells, and the wire that is left
abbrev pub rim_left : ℕ → Float → List ℕ → List Float → List ℕ → Outcome
rim_left p t numbers floats wire =
    record {
      said = result (record { vertices = 2; edges = 2; uses = length wire });
      slices = record {
        vn = given_numbers ++ numbers ++ idle numbers_per_vertex;
        vf = given_floats zero64 zero64 zero64 ++ floats ++ idle_floats floats_per_vertex;
        en = prepared_numbers 0 1 7 p ++ prepared_numbers 1 0 7 p ++ idle numbers_per_edge;
        ef = span_floats zero64 t ++ span_floats t eight64 ++ idle_floats floats_per_edge;
        us = wire ++ idle 2;
        ls = length wire ∷ idle 1;
      };
    }

-- vertex 1 is pending on span 7 (0 to 8) at t
abbrev pub rim_cut_at : ℕ → Float → List ℕ → Outcome
rim_cut_at p t wire = rim_left p t (pending_numbers 7) (pending_floats zero64 eight64 t) wire

abbrev pub rim_cut_prepared : ℕ → List ℕ → Outcome
rim_cut_prepared p wire = rim_cut_at p four64 wire

abbrev pub rim_cut_with : List ℕ → Outcome
rim_cut_with wire = rim_cut_prepared 0 wire

-- document 02, A.3: "Equality with the Rust and K1 to K3 are for 4"
-- "K1: one vertex, edge 0 = (0, 0) with span 7 from 0 to 8, wire 0+. Result: .. wire 0+ 1+."
abbrev pub k1 : Case
k1 = closed_edges 4 (rim_with (0 ∷ [])) (rim_cut_with (0 ∷ 2 ∷ []))

-- "K2: wire 0- gives 1- 0-."
abbrev pub k2 : Case
k2 = closed_edges 4 (rim_with (1 ∷ [])) (rim_cut_with (3 ∷ 1 ∷ []))

-- "K3: no edges, nothing changes."
abbrev pub no_edges : Lent
no_edges =
    lent_of
    (given_numbers ++ idle numbers_per_vertex) (given_floats zero64 zero64 zero64 ++ idle_floats floats_per_vertex)
    (idle numbers_per_edge) (idle_floats floats_per_edge)
    (idle 2) (0 ∷ idle 1)
    1 0 1

abbrev pub k3 : Case
k3 = closed_edges 4 no_edges (record { said = result (record { vertices = 1; edges = 0; uses = 0 }); slices = no_edges.slices })

-- "K4: u 0.5, u0 6, period 4 gives 4.5."
abbrev pub k4 : Case
k4 = unwrapping half64 six64 (Some four64) (result four_and_half64)

-- "K5: u 0, u0 2, period 4 gives 0."
abbrev pub k5 : Case
k5 = unwrapping zero64 two64 (Some four64) (result zero64)

-- "K9: edges 0 = (0, 2), 1 = (0, 1), 2 = (1, 0), 3 = (2, 3), 4 = (3, 2); vertices (1,0,0), (-1,0,0), (1,0,4), (-1,0,4)"
abbrev pub pipe_numbers : List ℕ
pipe_numbers = plain_numbers 0 2 ++ plain_numbers 0 1 ++ plain_numbers 1 0 ++ plain_numbers 2 3 ++ plain_numbers 3 2

abbrev pub pipe_floats : List Float
pipe_floats = plain_floats ++ plain_floats ++ plain_floats ++ plain_floats ++ plain_floats

abbrev pub pipe_points : List Float
pipe_points =
    given_floats one64 zero64 zero64 ++ given_floats (neg one64) zero64 zero64 ++ given_floats one64 zero64 four64 ++ given_floats (neg one64) zero64 four64

abbrev pub pipe_wire : List ℕ → Said Ends → Case
pipe_wire wire answer =
    searching
    (lent_of
    (given_numbers ++ given_numbers ++ given_numbers ++ given_numbers ++ idle numbers_per_vertex) (pipe_points ++ idle_floats floats_per_vertex)
    (pipe_numbers ++ idle numbers_per_edge) (pipe_floats ++ idle_floats floats_per_edge)
    (wire ++ idle 2) (length wire ∷ idle 1)
    4 5 1)
    answer

-- "K6: 0+ 1+ 2+ gives none."
abbrev pub k6 : Case
k6 = pipe_wire (0 ∷ 2 ∷ 4 ∷ []) none

-- "K7: 0+ 1+ 0- is refusal 8."
abbrev pub k7 : Case
k7 = pipe_wire (0 ∷ 2 ∷ 1 ∷ []) (refused 8)

-- "K8: 0+ 0- 1+ gives none."
abbrev pub k8 : Case
k8 = pipe_wire (0 ∷ 1 ∷ 2 ∷ []) none

-- "K9: .. wire 1+ 2+ 0+ 3+ 4+ 0-. Answer (3, 1)."
abbrev pub k9 : Case
k9 = pipe_wire k9_wire (result (record { v0 = 3; v1 = 1 }))

-- a split of so many vertices and edges, with the same wire as the face's and to be rebuilt, on surface 7. Of the edges, of the uses and of the lengths
-- there are more places than it needs
abbrev pub split_of : ℕ → ℕ → List ℕ → List Float → List ℕ → List ℕ → List Float → LentSplit
split_of vertices edges en ef wire divisor points =
    record {
      buffers = record { en = en ++ idle (2 * numbers_per_edge); ef = ef ++ idle_floats (2 * floats_per_edge); us = idle (length wire + 4); ls = idle (length wire + 4) };
      face_uses = wire ++ idle 2;
      face_lengths = length wire ∷ idle 1;
      rebuilt_uses = wire ++ idle 2;
      rebuilt_lengths = length wire ∷ idle 1;
      divisor = divisor ++ idle 1;
      points = points ++ idle_floats 2;
      vertices = vertices;
      edges = edges;
      face_wires = 1;
      rebuilt_wires = 1;
      stops = length divisor;
      surface = 7;
    }

-- the call is refused, and nothing lent is changed
abbrev pub split_refused : ℕ → LentSplit → SplitOutcome
split_refused n lent = record { said = refused n; buffers = lent.buffers }

-- "K10: K9's edges, face wire and rebuilt wire, list 3, 1: edge 5 = (3, 1); wires 0+ 3+ 5+ 2+ and 1+ 5- 4+ 0-."
abbrev pub k10_lent : LentSplit
k10_lent = split_of 4 5 pipe_numbers pipe_floats k9_wire (3 ∷ 1 ∷ []) (zero64 ∷ one64 ∷ two64 ∷ four64 ∷ [])

abbrev pub k10_left : Buffers
k10_left =
    record {
      en = pipe_numbers ++ (3 ∷ 1 ∷ 1 ∷ 7 ∷ 0 ∷ []) ++ idle numbers_per_edge;
      ef = pipe_floats ++ (zero64 ∷ one64 ∷ two64 ∷ four64 ∷ zero64 ∷ one64 ∷ []) ++ idle_floats floats_per_edge;
      us = (0 ∷ 6 ∷ 10 ∷ 4 ∷ []) ++ (2 ∷ 11 ∷ 8 ∷ 1 ∷ []) ++ idle 2;
      ls = 4 ∷ 4 ∷ idle 8;
    }

abbrev pub k10 : Case
k10 = splitting k10_lent (record { said = result (record { wires = 2; uses = 8; edges = 6 }); buffers = k10_left })

-- "K11: edge 0 = (0, 1), use 0+ alone: 11."
abbrev pub k11_lent : LentSplit
k11_lent = split_of 2 1 (plain_numbers 0 1) plain_floats (0 ∷ []) [] []

abbrev pub k11 : Case
k11 = splitting k11_lent (split_refused 11 k11_lent)

-- "K12: edges 0 to 2 are (0, 1), 3 to 5 are (1, 0), each used forward: 12."
abbrev pub k12_lent : LentSplit
k12_lent =
    split_of 2 6
    (plain_numbers 0 1 ++ plain_numbers 0 1 ++ plain_numbers 0 1 ++ plain_numbers 1 0 ++ plain_numbers 1 0 ++ plain_numbers 1 0)
    (plain_floats ++ plain_floats ++ plain_floats ++ plain_floats ++ plain_floats ++ plain_floats)
    (0 ∷ 2 ∷ 4 ∷ 6 ∷ 8 ∷ 10 ∷ []) [] []

abbrev pub k12 : Case
k12 = splitting k12_lent (split_refused 12 k12_lent)

-- "K13: edges 0 to 2 all (0, 0), each used forward: wires 2+, 1+, 0+."
abbrev pub k13_lent : LentSplit
k13_lent =
    split_of 1 3 (plain_numbers 0 0 ++ plain_numbers 0 0 ++ plain_numbers 0 0) (plain_floats ++ plain_floats ++ plain_floats) (0 ∷ 2 ∷ 4 ∷ []) [] []

abbrev pub k13_left : Buffers
k13_left =
    record {
      en = k13_lent.buffers.en;
      ef = k13_lent.buffers.ef;
      us = (4 ∷ []) ++ (2 ∷ []) ++ (0 ∷ []) ++ idle 4;
      ls = 1 ∷ 1 ∷ 1 ∷ idle 4;
    }

abbrev pub k13 : Case
k13 = splitting k13_lent (record { said = result (record { wires = 3; uses = 3; edges = 3 }); buffers = k13_left })

abbrev pub cases : List Case
cases = k1 ∷ k2 ∷ k3 ∷ k4 ∷ k5 ∷ k6 ∷ k7 ∷ k8 ∷ k9 ∷ k10 ∷ k11 ∷ k12 ∷ k13 ∷ []

pub cases_hold : all_hold cases
unfolding add sub mul div neg lt le round of_bits lower_of lowest_of float_cause range_cause parameter_cause uv_cause curve_cause edge_cause point_cause vertex_cause edge_row_cause vertex_row_cause edges_cause vertices_cause uses_cause wires_cause put store_from rows curve_of edge_of vertex_of edge_number_layout edge_float_layout vertex_number_layout vertex_float_layout total wires_of uses_of lengths_of load store_shell counts_of vertices_fit edges_fit uses_fit has_room input_cause closed kept_edges new_edges new_vertices added_to replace_use replace_edges replace_wires cut_parameter_of parameter_of halves_of pending_of split_closed_edges outcome_of smaller away_from nearest_of unwrapped period_cause period_cause_of unwrap_cause get_mindiff pending_cause tables_cause nothing insert searched first_repeat turned second_pair divided_by turned_divisor wire_divisor find_divisor search_cause find_non_simple front_of back_of front_at back_at fronts_of point_of point_gap gap_from nearest_front nearest_ends steps opened table_walk seam_of seams_of stands repeats_after stop_cause stops_cause new_uses occurs marked_by split_wires split_wires_cause split_input_cause room_cause split_cause given_in split_stored split_outcome
cases_hold = (refl, (refl, (refl, (refl, (refl, (refl, (refl, (refl, (refl, (refl, (refl, (refl, (refl, tt)))))))))))))

-- ---- beside document 01's cases

-- K1's edge with the wire 0+ 0- gives 0+ 1+ 1- 0-
abbrev pub both_ways : Case
both_ways = closed_edges 4 (rim_with (0 ∷ 1 ∷ [])) (rim_cut_with (0 ∷ 2 ∷ 3 ∷ 1 ∷ []))

-- "With no period, u comes back as given, to the bit."
abbrev pub no_period : Case
no_period = unwrapping negative_zero64 zero64 None (result negative_zero64)

-- "Negative zero plus the zero step is zero."
abbrev pub zero_step : Case
zero_step = unwrapping negative_zero64 zero64 (Some four64) (result zero64)

-- a copy without periods is shifted by zero
abbrev pub zero_shift : Case
zero_shift = copying (record { u = zero64; v = zero64 }) (record { u = negative_zero64; v = negative_zero64 }) None None (result (record { u = zero64; v = zero64 }))

abbrev pub corners : List Case
corners = both_ways ∷ no_period ∷ zero_step ∷ zero_shift ∷ []

pub corners_hold : all_hold corners
unfolding add sub mul div neg lt le round of_bits lower_of lowest_of float_cause range_cause parameter_cause uv_cause curve_cause edge_cause point_cause vertex_cause edge_row_cause vertex_row_cause edges_cause vertices_cause uses_cause wires_cause put store_from rows curve_of edge_of vertex_of edge_number_layout edge_float_layout vertex_number_layout vertex_float_layout total wires_of uses_of lengths_of load store_shell counts_of vertices_fit edges_fit uses_fit has_room input_cause closed kept_edges new_edges new_vertices added_to replace_use replace_edges replace_wires cut_parameter_of parameter_of halves_of pending_of split_closed_edges outcome_of smaller away_from nearest_of unwrapped period_cause period_cause_of unwrap_cause get_mindiff nearest_copy_of copy_cause nearest_copy_said
corners_hold = (refl, (refl, (refl, (refl, tt))))
