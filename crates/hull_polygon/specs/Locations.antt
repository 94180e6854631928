-- The location of a point relative to the hull of a set S whose vertices are V, the last one at `last`.
use Rattle.std.specs.Prelude.{ℕ, List}
use Rattle.lattice.specs.Plane.{Pair}
use Rattle.hull_geometry.specs.Locations.{IsLocationOf}
use Rattle.hull_geometry.specs.declared.location.Location.{Location}
use Rattle.hull_polygon.specs.Rounds.{vertex}

-- the location of q
abbrev pub IsSeen : List Pair → ℕ → Pair → Location → List Pair → Type 0
IsSeen V last q location S = IsLocationOf (vertex V 0) (vertex V last) S q location
