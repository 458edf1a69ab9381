-- What the contracts of the calls that cut edges share: what such a call is lent and what it leaves, causes 1 to 5, and room for its result.
-- Definitions only.
use Rattle.std.specs.Prelude.{Bool, true, false, Result, List, ℕ, Float}
use Rattle.compress.specs.declared.Refusal.{Refusal}
use Rattle.compress.specs.declared.Counts.{Counts}
use Rattle.compress.specs.Said.{Said, result, refused, said_of}
use Rattle.compress.specs.Shell.{Shell, Slices, Lent, store_shell, counts_of, has_room}
use Rattle.checks.specs.Causes.{lower_of, vertices_cause, edges_cause, wires_cause}

-- what a call is lent
abbrev pub lent_of : List ℕ → List Float → List ℕ → List Float → List ℕ → List ℕ → ℕ → ℕ → ℕ → Lent
lent_of vn vf en ef us ls v e w =
    record { slices = record { vn = vn; vf = vf; en = en; ef = ef; us = us; ls = ls }; vertices = v; edges = e; wires = w }

-- what a call leaves: its answer, and the contents of the six lent slices
pub record Outcome : Type 0 where
  pub said : Said Counts
  pub slices : Slices

abbrev pub leaves : Result Counts Refusal → List ℕ → List Float → List ℕ → List Float → List ℕ → List ℕ → Outcome
leaves r vn vf en ef us ls = record { said = said_of (λ c. c) r; slices = record { vn = vn; vf = vf; en = en; ef = ef; us = us; ls = ls } }

-- what the next call is lent: the slices that a call left, the counts that it told, and as many wires as before
abbrev pub next_lent : Outcome → Counts → ℕ → Lent
next_lent o c w = record { slices = o.slices; vertices = c.vertices; edges = c.edges; wires = w }

-- causes 1 to 5, over all that was lent
unfoldable pub input_cause : Lent → ℕ
input_cause l =
    lower_of (vertices_cause l.slices.vn l.slices.vf l.vertices)
    (lower_of (edges_cause l.vertices l.slices.en l.slices.ef l.edges)
    (wires_cause l.edges l.slices.us l.slices.ls l.wires))

-- the call is turned away: nothing lent is changed
abbrev pub turned_away : Slices → ℕ → Outcome
turned_away s n = record { said = refused n; slices = s }

-- "6 over a result arises only where no other number .. does"
abbrev pub room_or : Bool → Slices → Shell → Outcome
room_or true s r = record { said = result (counts_of r); slices = store_shell s r }
room_or false s r = turned_away s 6

abbrev pub result_of : Slices → Shell → Outcome
result_of s r = room_or (has_room s (counts_of r)) s r
