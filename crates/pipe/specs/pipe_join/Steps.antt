-- What the join leaves of a shell. Definitions only.
use Rattle.std.specs.Prelude.{◌≡◌, ℕ, drop, get_or}
use Rattle.compress.specs.Said.{result}
use Rattle.join.specs.Contract.{join_outcome}
use Rattle.join.specs.joined.Outcome.{JoinOutcome}
use Rattle.correction.specs.declared.nearest.Ends.{Ends}
use Rattle.pipe_shell.specs.declared.Shell.{Shell}
use Rattle.pipe_shell.specs.declared.Wires.{Wires}

-- what the call leaves of the wires of a shell, which are joined with two rims at two vertices
abbrev pub join_of : Wires → Shell → Ends → JoinOutcome
join_of rims s d =
    let n = get_or rims.lengths 0 0 in
    let m = get_or rims.lengths 1 0 in
    join_outcome (record {
      en = s.edges.numbers;
      ef = s.edges.floats;
      first = rims.uses;
      second = drop n rims.uses;
      us = s.wires.uses;
      ls = s.wires.lengths;
      vertices = s.vertices.count;
      edges = s.edges.count;
      first_count = n;
      second_count = m;
      wires = s.wires.count;
      v0 = d.v0;
      v1 = d.v1;
    })

-- the call has a result, and the shell has the wires that it leaves
pub record Joined (o : JoinOutcome) (left : Shell) : Type 0 where
  pub said : (n : ℕ) × (o.said ≡ result n)
  pub uses : left.wires.uses ≡ o.us
  pub lengths : left.wires.lengths ≡ o.ls
