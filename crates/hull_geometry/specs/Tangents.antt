-- The points that answer questions about a set: the farthest in a direction, and those that tangents touch.
use Rattle.std.specs.Prelude.{◌≡◌, ◌≢◌, pos, ◌≤ℤ◌, ◌<ℤ◌, List}
use Rattle.std.specs.List.{All, Contains}
use Rattle.lattice.specs.Plane.{Pair, orient, product, distance_squared, IsBefore}
use Rattle.lattice.specs.Places.{IsFarthest}
use Rattle.lattice.specs.declared.side.Side.{Side}
use Rattle.lattice.specs.declared.side.Side.TheVariants.{Lower, Upper}
use Rattle.hull_geometry.specs.declared.hand.Hand.{Hand}
use Rattle.hull_geometry.specs.declared.hand.Hand.TheVariants.{Left, Right}

-- a direction faces the upper chain if it goes up, and else the lower one
abbrev pub Faces : Side → Pair → Type 0
Faces Lower d = d.y ≤ℤ pos 0
Faces Upper d = pos 0 <ℤ d.y

-- t is the first of the points of S that are farthest in the direction d
abbrev pub IsFirstFarthest : List Pair → Pair → Pair → Type 0
IsFirstFarthest S d t = Contains S t × IsFarthest S d t × All (λ u. IsBefore u t → product d u ≢ product d t) S

-- seen from q, t is not farther on this hand than p: not on that side of the line from q to p, and if on the line, no
-- farther from q
abbrev pub IsNoMore : Hand → Pair → Pair → Pair → Type 0
IsNoMore Left q p t = (orient q p t ≤ℤ pos 0) × (orient q p t ≡ pos 0 → distance_squared q t ≤ℤ distance_squared q p)
IsNoMore Right q p t = (pos 0 ≤ℤ orient q p t) × (orient q p t ≡ pos 0 → distance_squared q t ≤ℤ distance_squared q p)

-- the tangent from q on this hand touches S in p: p is a point of S, and none is farther on this hand
abbrev pub IsTangent : Hand → List Pair → Pair → Pair → Type 0
IsTangent hand S q p = Contains S p × All (IsNoMore hand q p) S

-- no point of S lies left of the line from q to l, and none on that line is farther from q
abbrev pub IsLeftTangent : List Pair → Pair → Pair → Type 0
IsLeftTangent = IsTangent Left

-- no point of S lies right of the line from q to r, and none on that line is farther from q
abbrev pub IsRightTangent : List Pair → Pair → Pair → Type 0
IsRightTangent = IsTangent Right
