-- An octagon, and the points in it.
use Rattle.std.specs.Prelude.{List}
use Rattle.lattice.specs.Plane.{Pair}
use Rattle.lattice.specs.declared.side.Side.{Side}
use Rattle.lattice.specs.declared.side.Side.TheVariants.{Lower, Upper}
use Rattle.outer_points.specs.Chains.{IsInOrder, IsUnder}
use Rattle.outer_points.specs.declared.octagon.Octagon.{Octagon}

-- its chain on a side
abbrev pub chain_of : Side → Octagon → List Pair
chain_of Lower octagon = octagon.lower
chain_of Upper octagon = octagon.upper

-- both chains are in order
abbrev pub IsOctagonInOrder : Octagon → Type 0
IsOctagonInOrder octagon = IsInOrder octagon.lower × IsInOrder octagon.upper

-- p is between two successive vertices of each chain, and not outwards of their segments
pub record IsInnerTo (octagon : Octagon) (p : Pair) : Type 0 where
  pub below : IsUnder Lower octagon.lower p
  pub above : IsUnder Upper octagon.upper p
