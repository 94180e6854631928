-- Which points of a list the vertices of a polygon are.
use Rattle.std.specs.Prelude.{◌≡◌, ◌≢◌, ℕ, ◌<◌, ◌≤◌, List, length, nat_lt, slice_index, count_by}
use Rattle.lattice.specs.Plane.{Pair}
use Rattle.lattice.specs.declared.side.Side.{Side}
use Rattle.hull_geometry.specs.Edges.{IsAlong}
use Rattle.hull_geometry.specs.Positions.{point_at}

-- k is the index of the first of the points, from `start` on, that is equal to p; or it is their number, if none is
pub record IsFirstIndex (start : ℕ) (points : List Pair) (p : Pair) (k : ℕ) : Type 0 where
  pub from : start ≤ k
  pub within : k ≤ length points
  pub equal : k < length points → point_at points k ≡ p
  pub first : (j : ℕ) → start ≤ j → j < k → point_at points j ≢ p

-- the index for each vertex, and how many of the vertices are among the points
pub record AreIndices (vertices points : List Pair) (indices : List ℕ) (found : ℕ) : Type 0 where
  pub long : length indices ≡ length vertices
  pub each : (i : ℕ) → i < length vertices → IsFirstIndex 0 points (point_at vertices i) (slice_index indices i)
  pub count : found ≡ count_by (λ k. nat_lt k (length points)) indices

-- the vertices of this part of the list follow one another along the chain on this side
abbrev pub GoesAlong : Side → List Pair → ℕ → ℕ → Type 0
GoesAlong side vertices start end =
    (i j : ℕ) → start ≤ i → i < j → j < end → IsAlong side (point_at vertices i) (point_at vertices j)
