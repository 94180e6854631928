-- A part of a list of points.
use Rattle.std.specs.Prelude.{◌≡◌, Bool, List, length}
use Rattle.std.specs.List.{items_where_true}
use Rattle.lattice.specs.Plane.{Pair}

-- some are those of the points that were chosen, in their order
abbrev pub IsSublist : List Pair → List Pair → Type 0
IsSublist some points = (chosen : List Bool) × (length chosen ≡ length points) × (some ≡ items_where_true chosen points)
