-- The chain of a set after a change, and the points from which it is built.
use Rattle.std.specs.Prelude.{ℕ, ◌<◌, ◌-◌, pos, ◌≤ℤ◌, List, ◌++◌, length}
use Rattle.std.specs.List.{All, Contains}
use Rattle.lattice.specs.Covers.{IsPointSet}
use Rattle.lattice.specs.Plane.{Pair, IsBefore}
use Rattle.hull_geometry.specs.Monotone.{IsThinned}
use Rattle.lattice.specs.Orientations.{orient_on}
use Rattle.hull_geometry.specs.Positions.{point_at}
use Rattle.lattice.specs.declared.side.Side.{Side}

-- p, with the position i in a chain, is between two of its points, and not outwards of their segment
abbrev pub IsOverEdge : Side → List Pair → ℕ → Pair → Type 0
IsOverEdge side chain i p =
    (0 < i) × (i < length chain) × (orient_on side (point_at chain (i - 1)) p (point_at chain i) ≤ℤ pos 0)

-- `middle` has all points of S that are after `left` and before `right`, and is in order between them
pub record IsBetween (S left right middle : List Pair) : Type 0 where
  pub ordered : IsPointSet (left ++ middle ++ right)
  pub among : (t : Pair) → Contains middle t → Contains S t
  pub all : (t : Pair) → Contains S t → All (λ u. IsBefore u t) left → All (IsBefore t) right → Contains middle t

-- the list is the result of removing inner points from `left`, all points of S between it and `right`, and `right`
abbrev pub ThinsBetween : Side → List Pair → List Pair → List Pair → List Pair → Type 0
ThinsBetween side S left right list =
    (middle : List Pair) × IsBetween S left right middle × IsThinned side (left ++ middle) list
