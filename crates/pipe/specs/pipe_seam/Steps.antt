-- What a split leaves of a shell. Definitions only.
use Rattle.std.specs.Prelude.{◌≡◌, List, [], ◌∷◌, ℕ, Float, replicate}
use Rattle.compress.specs.Said.{result}
use Rattle.correction.specs.declared.nearest.Ends.{Ends}
use Rattle.pipe_shell.specs.declared.Shell.{Shell}
use Rattle.split.specs.Contract.{SplitOutcome, split_outcome}
use Rattle.split.specs.declared.Boundaries.{Boundaries}

-- what the call leaves along two vertices with these uv points, with so many wires to be rebuilt, in slices of zeros
abbrev pub split_of : Shell → Ends → ℕ → List Float → SplitOutcome
split_of s d rebuilt points =
    let e = s.edges in
    let w = s.wires in
    let none = replicate 8 0 in
    split_outcome
    (record {
      buffers = record { en = e.numbers; ef = e.floats; us = none; ls = none };
      face_uses = w.uses;
      face_lengths = w.lengths;
      rebuilt_uses = w.uses;
      rebuilt_lengths = w.lengths;
      divisor = d.v0 ∷ d.v1 ∷ [];
      points = points;
      vertices = s.vertices.count;
      edges = e.count;
      face_wires = w.count;
      rebuilt_wires = rebuilt;
      stops = 2;
      surface = 0;
    })

-- the call has a result, and the shell has the edges and the wires that it leaves
pub record LeftBy (o : SplitOutcome) (left : Shell) : Type 0 where
  pub counts : (n : Boundaries) × (o.said ≡ result n) × (left.edges.count ≡ n.edges) × (left.wires.count ≡ n.wires)
  pub edge_numbers : left.edges.numbers ≡ o.buffers.en
  pub edge_floats : left.edges.floats ≡ o.buffers.ef
  pub uses : left.wires.uses ≡ o.buffers.us
  pub lengths : left.wires.lengths ≡ o.buffers.ls

-- the same of a shell that is split along two vertices, with some uv points of theirs
abbrev pub SplitAlong : Shell → Ends → ℕ → Shell → Type 0
SplitAlong s d rebuilt left = (points : List Float) × LeftBy (split_of s d rebuilt points) left
