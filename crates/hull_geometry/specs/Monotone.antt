-- The chains of a hull as the results of one pass over points in order.
use Rattle.std.specs.Prelude.{◌≡◌, ◌⊎◌, ℤ, pos, ◌+ℤ◌, ◌≤ℤ◌, ◌<ℤ◌, ◌≤◌, List, [], ◌∷◌, ◌++◌, ◌-◌, length, take}
use Rattle.std.specs.List.{Contains}
use Rattle.lattice.specs.Covers.{IsPointSet}
use Rattle.lattice.specs.Plane.{Pair, IsBefore}
use Rattle.lattice.specs.Orientations.{orient_on}
use Rattle.hull_geometry.specs.Edges.{end_of}
use Rattle.lattice.specs.declared.side.Side.{Side}
use Rattle.lattice.specs.declared.side.Side.TheVariants.{Lower, Upper}

-- u is between a and b in the order, and not outwards of their segment
abbrev pub IsInwards : Side → Pair → Pair → Pair → Type 0
IsInwards side a b u = IsBefore a u × IsBefore u b × (pos 0 ≤ℤ orient_on side a b u)

-- u is a point of the chain after a, or lies inwards of one of its segments from a on
abbrev pub IsInnerFrom : Side → Pair → List Pair → Pair → Type 0
IsInnerFrom side a [] u = ⊥
IsInnerFrom side a (b ∷ rest) u = (u ≡ b) ⊎ (IsInwards side a b u ⊎ IsInnerFrom side b rest u)

-- u is a point of the chain, or lies inwards of one of its segments
abbrev pub IsInner : Side → List Pair → Pair → Type 0
IsInner side [] u = ⊥
IsInner side (a ∷ rest) u = (u ≡ a) ⊎ IsInnerFrom side a rest u

-- b lies outwards of the segment from a to the next point, if there is one
abbrev pub IsVertex : Side → Pair → Pair → List Pair → Type 0
IsVertex side a b [] = Unit {0}
IsVertex side a b (c ∷ rest) = pos 0 <ℤ orient_on side a b c

-- each point after a but the last lies outwards of the segment between its neighbours
abbrev pub IsConvexFrom : Side → Pair → List Pair → Type 0
IsConvexFrom side a [] = Unit {0}
IsConvexFrom side a (b ∷ rest) = IsVertex side a b rest × IsConvexFrom side b rest

-- each point but the first and the last lies outwards of the segment between its neighbours
abbrev pub IsConvex : Side → List Pair → Type 0
IsConvex side [] = Unit {0}
IsConvex side (a ∷ rest) = IsConvexFrom side a rest

-- a list of points in order that bends at each point except the ends
pub record IsStrict (side : Side) (chain : List Pair) : Type 0 where
  pub ordered : IsPointSet chain
  pub convex : IsConvex side chain

-- the list ends with c
abbrev pub EndsWith : Pair → List Pair → Type 0
EndsWith c [] = ⊥
EndsWith c (a ∷ rest) = end_of a rest ≡ c

-- the result of one pass over the points of a list in order (Andrew, 1979): a strict chain of some of them, with the
-- same end; each point that is inner to the list is inner to the chain
pub record IsPassed (side : Side) (points chain : List Pair) : Type 0 where
  pub strict : IsStrict side chain
  pub among : (t : Pair) → Contains chain t → Contains points t
  pub inner : (u : Pair) → IsInner side points u → IsInner side chain u
  pub ends : (c : Pair) → EndsWith c points → EndsWith c chain
  pub short : length chain ≤ length points

-- a list of points in order from which some points were removed that are inner to the rest: its first and its last stay
pub record IsThinned (side : Side) (points left : List Pair) : Type 0 where
  pub ordered : IsPointSet left
  pub among : (t : Pair) → Contains left t → Contains points t
  pub inner : (u : Pair) → IsInner side points u → IsInner side left u
  pub ends : (c : Pair) → EndsWith c points → EndsWith c left
  pub short : length left ≤ length points

-- a candidate list of a set S: some of its points in order, to which each point of S is inner
pub record IsCandidateListOf (side : Side) (S candidates : List Pair) : Type 0 where
  pub ordered : IsPointSet candidates
  pub among : (t : Pair) → Contains candidates t → Contains S t
  pub inner : (u : Pair) → Contains S u → IsInner side candidates u

-- the chain of the hull of a set S: a strict chain of some of its points, to which each point of S is inner
pub record IsChainOf (side : Side) (S chain : List Pair) : Type 0 where
  pub strict : IsStrict side chain
  pub among : (t : Pair) → Contains chain t → Contains S t
  pub inner : (u : Pair) → Contains S u → IsInner side chain u

-- the chain ends with a and b, and b does not lie outwards of the segment from a to c
pub record EndsInwards (side : Side) (chain : List Pair) (c : Pair) : Type 0 where
  pub front : List Pair
  pub a : Pair
  pub b : Pair
  pub whole : chain ≡ front ++ a ∷ b ∷ []
  pub kept : take (length chain - 1) chain ≡ front ++ a ∷ []
  pub inwards : orient_on side a b c ≤ℤ pos 0

-- a candidate list of a set S on each side
pub record AreCandidateListsOf (S lower upper : List Pair) : Type 0 where
  pub below : IsCandidateListOf Lower S lower
  pub above : IsCandidateListOf Upper S upper

-- the chain of some set on a side
abbrev pub IsSomeChain : Side → List Pair → Type 0
IsSomeChain side chain = (S : List Pair) × IsChainOf side S chain

-- the two chains of the hull of a set S
pub record AreChainsOf (S lower upper : List Pair) : Type 0 where
  pub below : IsChainOf Lower S lower
  pub above : IsChainOf Upper S upper

-- the two chains of some set
abbrev pub AreChains : List Pair → List Pair → Type 0
AreChains lower upper = (S : List Pair) × AreChainsOf S lower upper

-- the doubled areas of the triangles between c and the steps of a chain after a
abbrev pub fan_from : Side → Pair → Pair → List Pair → ℤ
fan_from side c a [] = pos 0
fan_from side c a (b ∷ rest) = orient_on side a b c +ℤ fan_from side c b rest

-- the doubled area between a chain and the segment from its first point to its last
abbrev pub fan_of : Side → List Pair → ℤ
fan_of side [] = pos 0
fan_of side (a ∷ rest) = fan_from side a a rest
