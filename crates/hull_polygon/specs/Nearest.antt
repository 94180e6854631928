-- The point of a hull that is nearest to a point outside of it: a vertex, or the foot on an edge.
use Rattle.std.specs.Prelude.{◌⊎◌, ℕ, zero, suc, ◌+◌, ◌-◌, pos, ◌*ℤ◌, ◌≤ℤ◌, ◌<ℤ◌, List, length}
use Rattle.lattice.specs.Plane.{Pair, orient, product, distance_squared}
use Rattle.lattice.specs.Covers.{Covers, IsExtreme}
use Rattle.lattice.specs.Places.{IsFarthest}
use Rattle.lattice.specs.Vertices.{IsLeftOf}
use Rattle.hull_polygon.specs.Rounds.{vertex}
use Rattle.hull_polygon.specs.Steps.{step}
use Rattle.hull_polygon.specs.declared.nearest.Nearest.{Nearest}
use Rattle.hull_polygon.specs.declared.nearest.Nearest.TheVariants.{Covered, Vertex, Edge}
use Rattle.lattice.specs.declared.side.Side.{Side}
use Rattle.hull_geometry.specs.Edges.{IsAlong}

-- in the direction from a to b, q lies farther than a: its foot on their line is beyond a
abbrev pub IsOnward : Pair → Pair → Pair → Type 0
IsOnward a b q = product (step a b) a <ℤ product (step a b) q

-- q lies right of the line from a to b, and its foot lies strictly between them
abbrev pub IsBeside : Pair → Pair → Pair → Type 0
IsBeside a b q = (orient a b q <ℤ pos 0) × IsOnward a b q × IsOnward b a q

-- c is a vertex, and in the direction from c to q, which is not covered, no point of S lies farther
pub record IsNearestVertex (S : List Pair) (q c : Pair) : Type 0 where
  pub outside : ¬ Covers S q
  pub vertex : IsExtreme S c
  pub nearest : IsFarthest S (step c q) c

-- a and b are vertices with all of S on the left of the edge from a to b, and q lies beside it on the right
pub record IsNearestEdge (S : List Pair) (q a b : Pair) : Type 0 where
  pub start : IsExtreme S a
  pub end : IsExtreme S b
  pub left : IsLeftOf S a b
  pub beside : IsBeside a b q

-- the nearest point to q
abbrev pub IsNearest : List Pair → Pair → Nearest → Type 0
IsNearest S q Covered = Covers S q
IsNearest S q (Vertex c) = IsNearestVertex S q c
IsNearest S q (Edge a b) = IsNearestEdge S q a b

-- ---- along the vertices

-- the vertex before the one at i, round the list
abbrev pub previous : List Pair → ℕ → Pair
previous V zero = vertex V (length V - 1)
previous V (suc i) = vertex V i

-- seen from c, q lies in the direction neither of p nor of n
abbrev pub IsTurnedFrom : Pair → Pair → Pair → Pair → Type 0
IsTurnedFrom p c n q = ¬ IsOnward c p q × ¬ IsOnward c n q

-- neither the vertex at i nor the edge from it is the nearest to q
abbrev pub IsPassedOver : List Pair → ℕ → Pair → Type 0
IsPassedOver V i q =
    ¬ IsTurnedFrom (previous V i) (vertex V i) (vertex V (i + 1)) q × ¬ IsBeside (vertex V i) (vertex V (i + 1)) q

-- q lies right of the edge from a to b, no less far than b; or it does not, and b is before q along the chain
abbrev pub ComesNearer : Side → Pair → Pair → Pair → Type 0
ComesNearer side a b q = ((orient a b q <ℤ pos 0) × ¬ IsOnward b a q) ⊎ ((pos 0 ≤ℤ orient a b q) × IsAlong side b q)

-- ---- these are the nearest

-- no point that S covers is nearer to q than its nearest vertex
abbrev pub NoneNearerThanVertex : Type 0
NoneNearerThanVertex =
    (S : List Pair) (q c p : Pair) → IsNearestVertex S q c → Covers S p → distance_squared q c ≤ℤ distance_squared q p

-- no point that S covers is nearer to q than its nearest edge: the square of the side of q, divided by the square of
-- the edge's length, is at most the square of the distance
abbrev pub NoneNearerThanEdge : Type 0
NoneNearerThanEdge =
    (S : List Pair) (q a b p : Pair) → IsNearestEdge S q a b → Covers S p
    → (orient a b q *ℤ orient a b q) ≤ℤ (distance_squared a b *ℤ distance_squared q p)
