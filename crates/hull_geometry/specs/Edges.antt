-- The edges of the convex hull of any list of points S, and the chains of these edges.
use Rattle.std.specs.List.{All, Contains}
use Rattle.std.specs.Prelude.{◌≡◌, pos, List, [], ◌∷◌}
use Rattle.lattice.specs.Plane.{Pair, orient, IsBefore}
use Rattle.lattice.specs.Vertices.{IsLeftOf}
use Rattle.lattice.specs.declared.side.Side.{Side}
use Rattle.lattice.specs.declared.side.Side.TheVariants.{Lower, Upper}

-- u is before v along the chain on this side, which goes back on the upper one
abbrev pub IsAlong : Side → Pair → Pair → Type 0
IsAlong Lower u v = IsBefore u v
IsAlong Upper u v = IsBefore v u

-- on this side, no point of S lies right of the line from u along to v, and none on that line lies beyond v
pub record IsEdgeOn (side : Side) (S : List Pair) (u v : Pair) : Type 0 where
  pub from : Contains S u
  pub to : Contains S v
  pub along : IsAlong side u v
  pub left : IsLeftOf S u v
  pub last : All (λ t. orient u v t ≡ pos 0 → ¬ (IsAlong side v t)) S

-- such an edge goes forward on the lower side
abbrev pub IsLowerEdge : List Pair → Pair → Pair → Type 0
IsLowerEdge = IsEdgeOn Lower

-- it goes back on the upper one
abbrev pub IsUpperEdge : List Pair → Pair → Pair → Type 0
IsUpperEdge = IsEdgeOn Upper

-- from u along the list, each member and the next are related
abbrev pub IsChain : (Pair → Pair → Type 0) → Pair → List Pair → Type 0
IsChain E u [] = Unit {0}
IsChain E u (v ∷ rest) = E u v × IsChain E v rest

-- the end of a chain: the last of u and the members of the list
abbrev pub end_of : Pair → List Pair → Pair
end_of u [] = u
end_of u (v ∷ rest) = end_of v rest

-- no point of S is before `first`
abbrev pub IsFirst : List Pair → Pair → Type 0
IsFirst S first = (t : Pair) → Contains S t → ¬ (IsBefore t first)

-- no point of S is after `last`
abbrev pub IsLast : List Pair → Pair → Type 0
IsLast S last = (t : Pair) → Contains S t → ¬ (IsBefore last t)
