use Rattle.std.proofs.Common.{◌≡◌}
use Rattle.walk.specs.lists.Ends.{front_in}
use Rattle.walk.specs.lists.Lists.{heads_after, nexts_after}
use Rattle.walk.proofs.lists.UseLists.create_vemap.Given as goal

abbrev pub invariant-loop-i : goal.invariant-loop-i
invariant-loop-i l =
    (l.self.head ≡ heads_after (front_in l.edges) l.uses l.initial.self.head l.i)
    × (l.self.next ≡ nexts_after (front_in l.edges) l.uses l.initial.self.head l.initial.self.next l.i)
