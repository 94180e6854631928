-- The place of a point, by its location relative to the hull.
use Rattle.std.specs.Prelude.{List}
use Rattle.lattice.specs.Plane.{Pair}
use Rattle.hull_geometry.specs.Locations.{AreEnds, IsLocationOf}
use Rattle.hull_geometry.specs.declared.location.Location.{Location}
use Rattle.hull_set.specs.Replies.{LiesAt}
use Rattle.hull_set.specs.declared.set.Place.{Place}

-- a point with this location has this place
abbrev pub ReturnsPlace : Location → Place → Type 0
ReturnsPlace location place = (first last : Pair) (S : List Pair) (q : Pair) → AreEnds S first last
    → IsLocationOf first last S q location → LiesAt S q place
