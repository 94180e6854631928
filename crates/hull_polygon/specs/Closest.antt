-- The nearest points of the hulls of two sets: a vertex of each, or a vertex of the one and a point of an edge of the
-- other. Between the hulls lies a strip whose width is their distance, perpendicular to the vector between the nearest
-- points: all of the one hull lies before it and all of the other after it.
use Rattle.std.specs.Prelude.{ℕ, ◌<◌, ℤ, pos, ◌*ℤ◌, ◌≤ℤ◌, List, length, map}
use Rattle.lattice.specs.Plane.{Pair, orient, distance_squared}
use Rattle.lattice.specs.Covers.{Covers, IsExtreme}
use Rattle.lattice.specs.Places.{IsFarthest}
use Rattle.hull_polygon.specs.Meetings.{Intersects}
use Rattle.hull_polygon.specs.Nearest.{IsNearest, IsNearestVertex, IsNearestEdge}
use Rattle.hull_polygon.specs.Rounds.{vertex}
use Rattle.hull_polygon.specs.Steps.{step, left_of}
use Rattle.hull_polygon.specs.declared.distance.Distance.{Distance}
use Rattle.hull_polygon.specs.declared.distance.Distance.TheVariants.{Zero, Vertices, VertexAndEdge, EdgeAndVertex}
use Rattle.hull_polygon.specs.declared.nearest.Nearest.{Nearest}
use Rattle.hull_polygon.specs.declared.nearest.Nearest.TheVariants.{Covered, Vertex, Edge}

-- the edge of T from a to b is nearest to the vertex c of S, and no point of S lies nearer to its line
pub record IsClosestToEdge (S T : List Pair) (c a b : Pair) : Type 0 where
  pub vertex : IsExtreme S c
  pub edge : IsNearestEdge T c a b
  pub closest : IsFarthest S (left_of a b) c

-- the nearest points of S and T
abbrev pub IsDistance : List Pair → List Pair → Distance → Type 0
IsDistance S T Zero = Intersects S T
IsDistance S T (Vertices c d) = IsNearestVertex S d c × IsNearestVertex T c d
IsDistance S T (VertexAndEdge c a b) = IsClosestToEdge S T c a b
IsDistance S T (EdgeAndVertex a b d) = IsClosestToEdge T S d a b

-- ---- in one pass over the vertices

-- the vector from c to the nearest feature: to that vertex, or perpendicular to that edge
abbrev pub way_to : Pair → Nearest → Pair
way_to c Covered = step c c
way_to c (Vertex d) = step c d
way_to c (Edge a b) = left_of a b

-- c is a vertex of S, this is the nearest feature of T to it, and no point of S lies farther in that direction
pub record IsClosest (S T : List Pair) (c : Pair) (place : Nearest) : Type 0 where
  pub vertex : IsExtreme S c
  pub nearest : IsNearest T c place
  pub closest : IsFarthest S (way_to c place) c

-- some point of S lies farther than c in the direction from c to the nearest feature of T
abbrev pub IsPassedBy : List Pair → List Pair → Pair → Type 0
IsPassedBy S T c = (place : Nearest) × IsNearest T c place × ¬ IsFarthest S (way_to c place) c

-- none of the vertices V of S is closest to T
abbrev pub HasNoClosest : List Pair → List Pair → List Pair → Type 0
HasNoClosest V S T = (i : ℕ) → i < length V → IsPassedBy S T (vertex V i)

-- ---- no two points are nearer to each other

-- the squared distance is this number ..
abbrev pub dividend : Distance → ℤ
dividend Zero = pos 0
dividend (Vertices c d) = distance_squared c d
dividend (VertexAndEdge c a b) = orient a b c *ℤ orient a b c
dividend (EdgeAndVertex a b d) = orient a b d *ℤ orient a b d

-- .. divided by this one
abbrev pub divisor : Distance → ℤ
divisor Zero = pos 1
divisor (Vertices c d) = pos 1
divisor (VertexAndEdge c a b) = distance_squared a b
divisor (EdgeAndVertex a b d) = distance_squared a b

-- a set magnified by k
abbrev pub magnified : ℕ → List Pair → List Pair
magnified k S = map (λ p. record { x = pos k *ℤ p.x; y = pos k *ℤ p.y }) S

-- no points of the two hulls are nearer to each other than the nearest points of the two, points with fractions as
-- coordinates included: these are points with whole coordinates in the magnified sets
abbrev pub NoneCloser : Type 0
NoneCloser =
    (S T : List Pair) (found : Distance) (k : ℕ) (p q : Pair) → IsDistance S T found → Covers (magnified k S) p
    → Covers (magnified k T) q
    → ((pos k *ℤ pos k) *ℤ dividend found) ≤ℤ (divisor found *ℤ distance_squared p q)
