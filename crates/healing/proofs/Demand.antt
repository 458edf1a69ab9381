-- Demand 3 for a host: what it is told, and what its places and slices hold, keep each directed use. Assumes nothing.
use Rattle.std.proofs.Common.{◌≡◌, ℤ, pos, ap, ◌∙◌}
use mathlib.Core.Logic.{◌≢◌, inl, inr, ⊎_elim}
use Rattle.compress.specs.Said.{Said, result, none, refused}
use Rattle.split.specs.declared.Boundaries.{Boundaries}
use Rattle.split.specs.Contract.{split_outcome}
use Rattle.split.specs.split_causes.Causes.{Buffers, LentSplit}
use Rattle.split.proofs.Demand.{split_keeps, split_leaves}
use Rattle.codes.specs.Told.{code_of, read_off, Told}
use Rattle.healing.specs.Host.{HostBoundaries, HostKeeps}

-- places hold what they held where the code is not 0
places_kept : {A : Type 0} {s : Said A} {before after : A} {r : ℤ} → Told s before after r → r ≢ pos 0 → after ≡ before
places_kept {s = result a} t ne = absurd (ne t.code)
places_kept {s = none} t ne = t.places
places_kept {s = refused n} t ne = t.places

pub host_keeps : (l : LentSplit) (before after : Boundaries) (b : Buffers) (r : ℤ) → HostBoundaries (split_outcome l) before after b r
    → HostKeeps l before after b r
host_keeps l before after b r h =
    let K = split_keeps l in
    let code = h.told.code in
    let read : (d : ℤ) → r ≡ d → (split_outcome l).said ≡ read_off d after
    = λ d e. h.told.read ∙ ap (λ (n : ℤ). read_off n after) e in
    record {
      succeeds = λ z even few. code ∙ ap code_of (K.succeeds z even few).1;
      refuses = λ z v ne. ⊎_elim (λ e. inl (code ∙ ap code_of e)) (λ e. inr (code ∙ ap code_of e)) (K.refuses z v ne);
      no_dead_end = λ z even e. K.no_dead_end z even (read (pos 11) e);
      kept = λ e. rw h.lent (K.kept after (read (pos 0) e));
      unchanged = λ ne. (places_kept h.told ne, h.lent ∙ ⊎_elim (λ d. absurd (ne (code ∙ ap code_of d.1))) (λ e. e) (split_leaves l));
    }
