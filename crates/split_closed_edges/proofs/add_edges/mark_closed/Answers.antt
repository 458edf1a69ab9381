use Rattle.std.proofs.Common.{◌≡◌, ◌≤◌, ◌+◌, ◌*◌, ◌∷◌, [], ◌++◌, List, Float, length, get_or, take, eqb, arith, ap, ◌∙◌, ℕ, Bor}
use Rattle.std.proofs.lemmas.List.{length_push}
use Rattle.std.proofs.lemmas.Iterator.Consumers.{YieldsList-from_enumerate, YieldsList-turn, YieldsList-end}
use Rattle.compress.specs.Records.{closed}
use Rattle.compress.specs.Rows.{numbers_per_edge, edge_at, edge_of}
use Rattle.split_closed_edges.proofs.add_edges.NumberRows.{yields_rows, row_item, numbered_length}
use Rattle.split_closed_edges.proofs.add_edges.Marking.{then_is, next_is, marking_start, marking_turn, marking_done}
use Rattle.split_closed_edges.proofs.add_edges.mark_closed.Goals as goal

pub loop-i-init : goal.loop-i-init
loop-i-init c = marking_start _ _ _ c.requires.2

pub loop-i-preserved : goal.loop-i-preserved
unfolding closed edge_of
loop-i-preserved c =
    let l = c.loop-i in
    let ns = c.args.edges.now.numbers.now in
    let item : ℕ × Bor (List ℕ) = (c.in-Some.i, c.in-Some.row) in
    let road = YieldsList-from_enumerate (yields_rows _ (take (c.args.edges.now.count * numbers_per_edge) ns) (cc) (cc)) cc in
    let q = row_item ns c.args.edges.now.count _ _ c.requires.1 (YieldsList-turn road l.yielded _ l.yielded_by _ _ item c.in-Some.is c.next.ensures.steps) in
    let k = length l.yielded in
    let b = eqb (get_or c.in-Some.row.now 0 0) (get_or c.in-Some.row.now 1 0) in
    let same : (fs : List Float) → b ≡ closed (edge_at ns fs k) = λ fs. rw (q.first, q.second) in
    let n : length (l.yielded ++ (item ∷ [])) ≡ k + 1 = omega (arith, length_push l.yielded item) in
    rw (n, q.place_is)
    (marking_turn _ _ _ c.requires.2 l.added k l.m b _ _ l.invariant q.inside same
    (c.then_some.ensures ∙ then_is b l.m) (ap (λ (x : ℕ). l.m + x) c.from-m.ensures ∙ next_is b l.m))

pub returns : goal.returns
returns c =
    let l = c.loop-i in
    let ns = c.args.edges.now.numbers.now in
    let count = c.args.edges.now.count in
    let road = YieldsList-from_enumerate (yields_rows _ (take (count * numbers_per_edge) ns) (cc) (cc)) cc in
    let past : count ≤ length l.yielded = omega (arith, (YieldsList-end road l.yielded _ l.yielded_by _ _ c.in-None.is c.next.ensures.steps).1, numbered_length ns count c.requires.1) in
    marking_done _ _ _ c.requires.2 l.added (length l.yielded) l.m l.invariant past
