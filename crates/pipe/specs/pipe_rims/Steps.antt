-- What the closed-edge pass leaves of a shell. Definitions only.
use Rattle.std.specs.Prelude.{◌≡◌, ℕ}
use Rattle.compress.specs.declared.Counts.{Counts}
use Rattle.compress.specs.Said.{result}
use Rattle.cutting.specs.Contract.{Outcome, lent_of}
use Rattle.pipe_shell.specs.declared.Shell.{Shell}
use Rattle.split_closed_edges.specs.Contract.{outcome_of}

-- what the call leaves, of a shell that it is lent, by k
abbrev pub pass_of : ℕ → Shell → Outcome
pass_of k s =
    let v = s.vertices in
    let e = s.edges in
    let w = s.wires in
    outcome_of k (lent_of v.numbers v.floats e.numbers e.floats w.uses w.lengths v.count e.count w.count)

-- the call has a result, and the shell has the edges and the wires that it leaves, and as many vertices
pub record Passed (o : Outcome) (left : Shell) : Type 0 where
  pub counts : (n : Counts) × (o.said ≡ result n) × (left.vertices.count ≡ n.vertices) × (left.edges.count ≡ n.edges)
  pub edge_numbers : left.edges.numbers ≡ o.slices.en
  pub edge_floats : left.edges.floats ≡ o.slices.ef
  pub uses : left.wires.uses ≡ o.slices.us
  pub lengths : left.wires.lengths ≡ o.slices.ls
