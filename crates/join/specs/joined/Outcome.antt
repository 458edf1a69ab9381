-- What a join leaves: its answer, and the contents of the uses and the lengths of the new wires. Definitions only.
use Rattle.std.specs.Prelude.{Option, Result, List, ℕ, length, take}
use Rattle.compress.specs.declared.Refusal.{Refusal}
use Rattle.compress.specs.Records.{pick}
use Rattle.compress.specs.Said.{Said, result, none, refused, said_of, said_if}
use Rattle.compress.specs.Shell.{uses_fit}
use Rattle.compress.specs.Wires.{wires_of, uses_of, lengths_of, over}
use Rattle.rows.specs.declared.lent.WiresMut.{WiresMut}

-- what a call leaves: its answer, and the contents of the uses and the lengths of the new wires
pub record JoinOutcome : Type 0 where
  pub said : Said ℕ
  pub us : List ℕ
  pub ls : List ℕ

-- the k new wires, as the next call reads them
abbrev pub wires_left : ℕ → JoinOutcome → List (List ℕ)
wires_left k o = wires_of o.us (take k o.ls)

-- the answer in document 01's terms: how many uses the new wires have now, "none", or the number of the refusal
abbrev pub leaves_join : Result (Option ℕ) Refusal → List ℕ → List ℕ → JoinOutcome
leaves_join r us ls = record { said = said_if (λ n. n) r; us = us; ls = ls }

-- the same of an answer that is never "none"
abbrev pub leaves_stored : Result ℕ Refusal → List ℕ → List ℕ → JoinOutcome
leaves_stored r us ls = record { said = said_of (λ n. n) r; us = us; ls = ls }

-- "6 over a result arises only where no other number and no "none" does. A "none" changes nothing lent."
unfoldable pub stored_in : List ℕ → List ℕ → List (List ℕ) → JoinOutcome
stored_in us ls ws =
    pick (uses_fit us (length (uses_of ws)))
    (record { said = result (length (uses_of ws)); us = over (uses_of ws) us; ls = over (lengths_of ws) ls })
    (record { said = refused 6; us = us; ls = ls })

abbrev pub join_leaves : List ℕ → List ℕ → Said (List (List ℕ)) → JoinOutcome
join_leaves us ls (result ws) = stored_in us ls ws
join_leaves us ls none = record { said = none; us = us; ls = ls }
join_leaves us ls (refused n) = record { said = refused n; us = us; ls = ls }

-- the same, said of the wires as a struct: what a call leaves, and what it leaves by what is said of the wires that it was lent
abbrev pub left : Result (Option ℕ) Refusal → WiresMut → JoinOutcome
left r w = leaves_join r w.uses.now w.lengths.now

abbrev pub left_by : WiresMut → Said (List (List ℕ)) → JoinOutcome
left_by w s = join_leaves w.uses.now w.lengths.now s
