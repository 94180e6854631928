-- The location of a point relative to the hull of S, by the edges at it.
use Rattle.std.specs.Prelude.{◌⊎◌, ℤ, pos, ◌<ℤ◌, ◌≤ℤ◌, List, Option, MatchOption}
use Rattle.std.specs.List.{Contains}
use Rattle.lattice.specs.Plane.{Pair, orient, IsBefore}
use Rattle.lattice.specs.Covers.{Covers}
use Rattle.lattice.specs.Places.{IsInside, IsOutside, IsOnBoundary}
use Rattle.lattice.specs.declared.side.Side.{Side}
use Rattle.lattice.specs.declared.side.Side.TheVariants.{Lower, Upper}
use Rattle.lattice.specs.Orientations.{orient_on}
use Rattle.hull_geometry.specs.Edges.{IsAlong, IsEdgeOn, IsFirst, IsLast}
use Rattle.hull_geometry.specs.Hands.{other_hand, IsOnHand, end_on}
use Rattle.hull_geometry.specs.declared.hand.Hand.{Hand}
use Rattle.hull_geometry.specs.declared.hand.Hand.TheVariants.{Left, Right}
use Rattle.hull_geometry.specs.declared.location.Location.{Location}
use Rattle.hull_geometry.specs.declared.location.Location.TheVariants.{Before, After, Below, Above, Touching, Within}

-- at q there is this edge on a side: from e.0, which is q or is before it along the chain, to e.1 after q
pub record IsEdgeOnAt (side : Side) (S : List Pair) (q : Pair) (e : Pair × Pair) : Type 0 where
  pub edge : IsEdgeOn side S e.0 e.1
  pub starts : ¬ IsAlong side q e.0
  pub onward : IsAlong side q e.1

-- the lower edge from e.0 to e.1 begins at q, or before it, and ends after it
abbrev pub IsLowerEdgeAt : List Pair → Pair → Pair × Pair → Type 0
IsLowerEdgeAt = IsEdgeOnAt Lower

-- the upper edge from e.0 back to e.1 begins at q, or after it, and ends before it
abbrev pub IsUpperEdgeAt : List Pair → Pair → Pair × Pair → Type 0
IsUpperEdgeAt = IsEdgeOnAt Upper

-- q lies right of an edge on this side: below a lower one, or above an upper one
abbrev pub IsRightOfEdge : Side → List Pair → Pair → Type 0
IsRightOfEdge side S q = (c : Pair) × (d : Pair) × IsEdgeOn side S c d × (orient c d q <ℤ pos 0)

-- q is no point of S, and lies outwards of each segment from a point of S before it to one after it
pub record IsClear (side : Side) (S : List Pair) (q : Pair) : Type 0 where
  pub absent : ¬ Contains S q
  pub outwards : (s t : Pair) → Contains S s → Contains S t → IsBefore s q → IsBefore q t → orient_on side s t q <ℤ pos 0

-- outwards on the lower side is below
abbrev pub IsBelow : List Pair → Pair → Type 0
IsBelow = IsClear Lower

-- outwards on the upper side is above
abbrev pub IsAbove : List Pair → Pair → Type 0
IsAbove = IsClear Upper

-- q is after the first point and before the last
abbrev pub IsBetweenEnds : Pair → Pair → Pair → Type 0
IsBetweenEnds first last q = IsBefore first q × IsBefore q last

-- the location of q relative to the hull of S, whose first and last points these are
abbrev pub IsLocationOf : Pair → Pair → List Pair → Pair → Location → Type 0
IsLocationOf first last S q Before = IsBefore q first
IsLocationOf first last S q After = IsBefore last q
IsLocationOf first last S q Below = IsBetweenEnds first last q × IsRightOfEdge Lower S q
IsLocationOf first last S q Above = IsBetweenEnds first last q × IsRightOfEdge Upper S q
IsLocationOf first last S q Touching = IsOnBoundary S q
IsLocationOf first last S q Within = IsInside S q

-- the location of a point that is between the ends and not below the lower edge there, by its sides of that edge and of
-- the upper one
abbrev pub IsLocationBy : ℤ → ℤ → Location → Type 0
IsLocationBy lower upper Before = ⊥
IsLocationBy lower upper After = ⊥
IsLocationBy lower upper Below = ⊥
IsLocationBy lower upper Above = upper <ℤ pos 0
IsLocationBy lower upper Touching = (pos 0 ≤ℤ lower) × (pos 0 ≤ℤ upper) × ((lower ≤ℤ pos 0) ⊎ (upper ≤ℤ pos 0))
IsLocationBy lower upper Within = (pos 0 <ℤ lower) × (pos 0 <ℤ upper)

-- ---- locations, and the chains that a tangent touches

-- these are the first and the last point of S
abbrev pub AreEnds : List Pair → Pair → Pair → Type 0
AreEnds S first last = (Contains S first × IsFirst S first) × (Contains S last × IsLast S last)

-- q lies inwards of the end of the chain on this side that is on this hand as seen from q
abbrev pub IsInwards : Hand → Side → Pair → Pair → Pair → Type 0
IsInwards hand Lower first last q = IsOnHand hand (end_on hand (first, last)) q
IsInwards hand Upper first last q = IsOnHand hand q (end_on (other_hand hand) (first, last))

-- the tangent from q on this hand touches the chain on this side
abbrev pub IsOnChain : Hand → Side → Pair → Pair → List Pair → Pair → Type 0
IsOnChain hand side first last S q = IsClear side S q × IsInwards hand side first last q

-- q lies outside, and its left and its right tangent touch these chains
abbrev pub AreTouched : Pair → Pair → List Pair → Pair → Side × Side → Type 0
AreTouched first last S q sides =
    IsOutside S q × IsOnChain Left sides.0 first last S q × IsOnChain Right sides.1 first last S q

-- a location, and the chains that the tangents from there touch; with none, S covers the point
abbrev pub ReturnsChains : Location → Option (Side × Side) → Type 0
ReturnsChains location sides = (first last : Pair) (S : List Pair) (q : Pair) → AreEnds S first last
    → IsLocationOf first last S q location → MatchOption sides (Covers S q) (AreTouched first last S q)
