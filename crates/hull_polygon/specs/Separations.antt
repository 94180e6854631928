-- A separation, in a form that a caller can test: a direction that separates a set from another, and a point of the set
-- farthest in it.
use Rattle.std.specs.Prelude.{ℕ, ◌+◌, ◌<◌, pos, ◌≤ℤ◌, ◌<ℤ◌, List, length}
use Rattle.std.specs.List.{All, Contains}
use Rattle.lattice.specs.Plane.{Pair, orient, product}
use Rattle.lattice.specs.Places.{IsFarthest}
use Rattle.hull_polygon.specs.Rounds.{vertex}
use Rattle.hull_polygon.specs.declared.separations.Separation.{Separation}

-- no point of S lies farther in the direction than the given one, and each point of T does
pub record IsSeparation (S T : List Pair) (w : Separation) : Type 0 where
  pub there : Contains S w.farthest
  pub farthest : IsFarthest S w.direction w.farthest
  pub beyond : All (λ t. product w.direction w.farthest <ℤ product w.direction t) T

-- some point of T lies on the left of the edge from the vertex at i, or on its line
abbrev pub HasOnLeftOfEdge : List Pair → ℕ → List Pair → Type 0
HasOnLeftOfEdge V i T = (t : Pair) × Contains T t × (pos 0 ≤ℤ orient (vertex V i) (vertex V (i + 1)) t)

-- for each edge of the vertices V, some point of T lies on its left, or on its line
abbrev pub HasOnLeft : List Pair → List Pair → Type 0
HasOnLeft V T = (i : ℕ) → i < length V → HasOnLeftOfEdge V i T
