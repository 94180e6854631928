-- The order of a walk along a chain.
use Rattle.std.specs.Prelude.{List, reverse}
use Rattle.lattice.specs.Plane.{Pair}
use Rattle.lattice.specs.declared.side.Side.{Side}
use Rattle.lattice.specs.declared.side.Side.TheVariants.{Lower, Upper}

-- the vertices of a chain, which are in order by x and then y, in the order of a walk on this side: it goes forward on the lower one, back on the
-- upper one
abbrev pub along : Side → List Pair → List Pair
along Lower chain = chain
along Upper chain = reverse chain
