use Prim.Native.Nat.{◌+◌, ◌-◌}
use lib.ListN.{length, set}
use Rattle.walk.specs.lists.Ends.{front_in, back_in, marked_of}
use Rattle.walk.proofs.Walks.{Between, Along}
use Rattle.walk.proofs.construct_boundaries.Given as goal

-- The inner loop's invariant speaks of the wire with the use `last`, which the loop stores first.
abbrev pub invariant-loop-v : goal.invariant-loop-v
invariant-loop-v l =
    Along (front_in l.edges) (back_in l.edges) (marked_of l.marks) l.uses l.lists.head l.lists.next (set l.made l.taken l.last) l.sizes l.start l.from (l.taken + 1) l.wires l.last

abbrev pub decreases-loop-v : goal.decreases-loop-v
decreases-loop-v l = length l.uses - l.taken

abbrev pub invariant-walk : goal.invariant-walk
invariant-walk l =
    Between (front_in l.edges) (back_in l.edges) (marked_of l.marks) l.uses l.lists.head l.lists.next l.made l.sizes l.start l.taken l.wires

abbrev pub decreases-walk : goal.decreases-walk
decreases-walk l = length l.uses - l.taken
