-- The point of a set that is nearest to a given one.
use Rattle.std.specs.Prelude.{◌≡◌, ◌≤ℤ◌, List}
use Rattle.std.specs.List.{All, Contains}
use Rattle.lattice.specs.Plane.{Pair, distance_squared, IsBefore}

-- p is no farther from q than t, and if it is as far, t is not before it
abbrev pub IsAsNear : Pair → Pair → Pair → Type 0
IsAsNear q p t =
    (distance_squared q p ≤ℤ distance_squared q t) × (distance_squared q t ≡ distance_squared q p → ¬ IsBefore t p)

-- no point of S is nearer to q than p, and of several the first by x and then y is p
abbrev pub IsNearestPoint : Pair → List Pair → Pair → Type 0
IsNearestPoint q S p = Contains S p × All (IsAsNear q p) S
