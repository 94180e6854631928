-- The location of a point relative to the hull of a half.
use Rattle.lattice.specs.Plane.{Pair}
use Rattle.bridge_search.specs.Trees.{Tree, first_of, last_of}
use Rattle.bridge_search.specs.Leaves.{points_of}
use Rattle.hull_geometry.specs.Locations.{IsLocationOf}
use Rattle.hull_geometry.specs.declared.location.Location.{Location}

-- the location of q relative to the hull of the half
abbrev pub IsSeen : Tree → Pair → Location → Type 0
IsSeen t q location = IsLocationOf (first_of t) (last_of t) (points_of t) q location
