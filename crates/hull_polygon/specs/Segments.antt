-- A segment as a set of points.
use Rattle.std.specs.Prelude.{List, [], ◌∷◌}
use Rattle.lattice.specs.Covers.{with_point}
use Rattle.lattice.specs.Plane.{Pair}

-- the set of its ends, which is one point if both are equal
abbrev pub ends : Pair → Pair → List Pair
ends a b = with_point a (b ∷ [])
