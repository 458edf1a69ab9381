-- What the pass leaves, for a host: the counts told are those of its answer, and so no vertex below them has a cause. Assumes nothing.
use Rattle.std.proofs.Common.{◌≡◌, ℤ, ℕ, List, Float, ap, sym, ◌∙◌}
use Rattle.std.specs.Prelude.{Result, Ok, Err, IfOk}
use Rattle.compress.specs.declared.Counts.{Counts}
use Rattle.compress.specs.declared.Refusal.{Refusal}
use Rattle.compress.specs.Refusals.{refusal_number}
use Rattle.compress.specs.Said.{said_of}
use Rattle.compress.specs.Shell.{Slices}
use Rattle.compress.proofs.Refused.{refused_never}
use Rattle.split_closed_edges.specs.add_edges.Steps.{VerticesPass}
use Rattle.codes.specs.Told.{read_off, Told}
use Rattle.healing.specs.Host.{HostVerticesPass}

-- n, vn, vf and d: the counts told, the vertices and the code, as the steps of the export name them
pub host_parameters : (answer : Result Counts Refusal) {before n : Counts} {d : ℤ} {vn : List ℕ} {vf : List Float} → Told (said_of (λ n. n) answer) before n d
    → IfOk answer (λ c. VerticesPass vn vf c.vertices)
    → {after : Counts} {slices : Slices} {r : ℤ} → after ≡ n → slices.vn ≡ vn → slices.vf ≡ vf → r ≡ d → HostVerticesPass after slices r
host_parameters (Ok c) t h p q s e = record { within = λ z. rw (p, q, s, t.places) h }
host_parameters (Err x) {before} {n} t h p q s e =
    record { within = λ z. absurd (refused_never (refusal_number x) (t.read ∙ ap (λ (d : ℤ). read_off d n) (sym e ∙ z))) }
