-- The location of a point relative to one chain of a hull.
use Rattle.std.specs.Prelude.{pos, ◌<ℤ◌, List}
use Rattle.std.specs.List.{Contains}
use Rattle.lattice.specs.Places.{IsOnBoundary}
use Rattle.lattice.specs.Plane.{Pair, IsBefore}
use Rattle.lattice.specs.Orientations.{orient_on}
use Rattle.lattice.specs.declared.side.Side.{Side}
use Rattle.hull_geometry.specs.ChainEdges.{IsEdgeAt}
use Rattle.hull_plain.specs.declared.locations.ChainLocation.{ChainLocation}
use Rattle.hull_plain.specs.declared.locations.ChainLocation.TheVariants.{Before, After, Outwards, Touching, Inwards}

-- the location of q relative to the chain of the hull of S on one side
abbrev pub IsSeen : Side → List Pair → Pair → ChainLocation → Type 0
IsSeen side S q Before = (t : Pair) → Contains S t → IsBefore q t
IsSeen side S q After = (t : Pair) → Contains S t → IsBefore t q
IsSeen side S q Outwards = (a : Pair) × (b : Pair) × IsEdgeAt side S q a b × (orient_on side a b q <ℤ pos 0)
IsSeen side S q Touching = IsOnBoundary S q
IsSeen side S q Inwards = (a : Pair) × (b : Pair) × IsEdgeAt side S q a b × (pos 0 <ℤ orient_on side a b q)
