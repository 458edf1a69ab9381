use Rattle.std.proofs.Common.{refl, ◌∙◌, ◌≤◌, ◌+◌, ◌/◌, ℕ, length, replicate}
use Rattle.std.proofs.lemmas.List.{length-replicate}
use Rattle.walk.proofs.marks.Walking.{signed_up, walk_asks, walk_leaves}
use Rattle.walk.proofs.marks.walk_within.Goals as goal

pub walk_wires-requires-clause-sound : goal.walk_wires-requires-clause-sound
walk_wires-requires-clause-sound g c =
    let p = c.requires in
    (walk_asks p.walkable (rw c.copy_from_slice.ensures.after) (signed_up _ _ _ _ _ _ (rw c.copy_from_slice.ensures.after) p.walkable.few refl c.signup_new_edges.ensures) _ _ _ _ p.table.0
    (c.mark_new.auto.marks ∙ c.duplicated_edges.auto.marks ∙ length-replicate g.row.N 0) (p.uses_room, p.lengths_room)).0

pub returns : goal.returns
returns g c =
    let p = c.requires in
    let d = c.duplicated_edges in
    let m = c.mark_new in
    let room : c.args.edges.now.lent.count + length c.args.edges.now.divisor.now / 2 ≤ length (replicate {A = ℕ} g.row.N 0) = rw length-replicate p.table.0 in
    walk_leaves p.walkable (rw c.copy_from_slice.ensures.after) (signed_up _ _ _ _ _ _ (rw c.copy_from_slice.ensures.after) p.walkable.few refl c.signup_new_edges.ensures) _
    d.new.marks m.new.marks _ _ room m.ensures d.auto.marks d.ensures
    c.walk_wires.ensures
