use Rattle.std.proofs.Common.{◌≡◌, refl}
use denote.Enum.Bare.{sameb}
use Rattle.wire_kinds.specs.declared.BoundaryType.{BoundaryType}
use Rattle.wire_kinds.specs.declared.BoundaryType.TheVariants.{Positive, Negative, NotClosed}
use Rattle.wire_kinds.specs.contracts.BoundaryType.{the_type}
use Rattle.wire_kinds.specs.Kinds.{type_at, is_open}
use Rattle.wire_kinds.proofs.LentEnds.is_open.Goals as goal

same_as_open : (t : BoundaryType) → sameb the_type t NotClosed ≡ is_open t
same_as_open Positive = refl
same_as_open Negative = refl
same_as_open NotClosed = refl

pub returns : goal.returns
unfolding type_at
returns c = rw (c.eq.ensures, c.kind_of.ensures, c.at.ensures) (same_as_open _)
