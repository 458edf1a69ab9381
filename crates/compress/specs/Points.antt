-- The point of a vertex. Definitions only.
use Rattle.compress.specs.declared.Vertex.{Vertex}
use Rattle.compress.specs.declared.Vertex.TheVariants.{Given, Pending}
use Rattle.compress.specs.declared.Xyz.{Xyz}
use Rattle.compress.specs.Constants.{zero64}

-- the point of a given vertex; a pending one has none, and is refused (7) before it is read
unfoldable pub point_of : Vertex → Xyz
point_of (Given x y z) = record { x = x; y = y; z = z }
point_of (Pending c t) = record { x = zero64; y = zero64; z = zero64 }

-- the vertex that is given as a point
abbrev pub given : Xyz → Vertex
given p = Given p.x p.y p.z
