use Rattle.std.proofs.Common.{rules}
use mathlib.Core.Path.{◌∙◌}
use mathlib.Core.List.{[]}
use Rattle.std.proofs.lemmas.List.{get_or_default}
use Rattle.std.proofs.lemmas.Iterator.{IsFirst-from_position}
use Rattle.std.proofs.lemmas.Iterator.Consumers.{YieldsList-from_first}
use Rattle.std.proofs.lemmas.Iterator.Adapters.{serves_from_places}
use Rattle.compress.specs.Rows.{edge_at}
use Rattle.compress.specs.Wires.{wires_of}
use Rattle.compress.proofs.Wires.{wire_count}
use Rattle.rows.specs.Held.{wires_in}
use Rattle.std.proofs.Common.{arith, ap, length}
use mathlib.Core.Logic.{inl}
use Rattle.join.proofs.laying.Places.{Holds, Lacks, told_holds, told_lacks, holder_found, wire_rows}
use Rattle.join.proofs.laying.find_wire.Goals as goal

pub position-requires-clause-callable : goal.position-requires-clause-callable
position-requires-clause-callable c =
    let a = c.args in
    let ws = wires_in a.wires.now in
    serves_from_places (YieldsList-from_first (λ w. w.now) (λ s. wires_of s.uses.now s.lengths.now) ws (search rules)) (λ x q k. search rules)
    (λ x k h e. let r = wire_rows a.edges.now.numbers.now a.edges.now.floats.now a.wires.now c.requires.lies c.requires.readable k h in let s = e ∙ get_or_default ws k x.now [] h in λ _ _ _ _ _ _ _. rw s r)

pub position-requires-clause-fits : goal.position-requires-clause-fits
position-requires-clause-fits c =
    let w = c.args.wires.now in
    let L = c.requires.lies in
    inl (omega (arith, ap length c.each.ensures, wire_count w.uses.now w.lengths.now w.count L.lengths, L.wires))

pub returns : goal.returns
returns c =
    let a = c.args in
    let es = edge_at a.edges.now.numbers.now a.edges.now.floats.now in
    let ws = wires_in a.wires.now in
    holder_found es a.v ws c.position.result
    (IsFirst-from_position c.position.new.self _ c.position.result (Holds es a.v) (Lacks es a.v) c.position.ensures.ran
    (YieldsList-from_first (λ w. w.now) (λ s. wires_of s.uses.now s.lengths.now) {s = c.each.result} ws c.each.ensures) (λ x q k. search (rules, told_holds)) (λ x q k. (search rules, search (rules, told_lacks))))
