use Rattle.std.proofs.Common.{rules}
use Rattle.healing.proofs.Demand.{host_keeps}
use Rattle.healing.proofs.splits.kaugrenna_split_boundaries_by_divisor.Goals as goal

pub returns : goal.returns
returns c = record { outcome = search rules; keeps_uses = host_keeps _ _ _ _ _ (search rules) }
