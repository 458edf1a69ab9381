-- What a host lends or is told as a number: the kind of a period. Definitions only.
use Rattle.std.specs.Prelude.{ℕ, Option, Some, None, eqb, Float}
use Rattle.compress.specs.declared.Uv.{Uv}
use Rattle.compress.specs.Records.{pick}
use Rattle.compress.specs.Said.{Said, result, refused, on_result}
use Rattle.periodic.specs.Unwrap.{get_mindiff}
use Rattle.periodic.specs.Copies.{nearest_copy_said}

-- ---- periods: kind 0 is absent, kind 1 is the number; 1, "a kind field holds no known kind"
unfoldable pub period_said : ℕ → Float → Said (Option Float)
period_said kind p = pick (eqb kind 0) (result None) (pick (eqb kind 1) (result (Some p)) (refused 1))

-- ---- unwrapping, for a host
unfoldable pub host_mindiff : Float → Float → ℕ → Float → Said Float
host_mindiff u u0 kind p = on_result (period_said kind p) (get_mindiff u u0)

-- ---- the nearest copy, for a host: the period in u, and then that in v
unfoldable pub host_copy_along : Uv → Uv → ℕ → Float → Option Float → Said Uv
host_copy_along p q vk v up = on_result (period_said vk v) (nearest_copy_said p q up)

unfoldable pub host_copy : Uv → Uv → ℕ → Float → ℕ → Float → Said Uv
host_copy p q uk u vk v = on_result (period_said uk u) (host_copy_along p q vk v)
