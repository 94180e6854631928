-- The position of a point in a list of points in the order "before", or the position where it would be inserted.
use Rattle.std.specs.List.{All}
use Rattle.std.specs.Prelude.{◌≡◌, ℕ, pos, List, ◌<◌, ◌≤◌, ◌-◌, length, take, drop, Result, Ok, Err, slice_index_or}
use Rattle.lattice.specs.Plane.{Pair, IsBefore}

-- p is at i in S; or it is not in S and belongs at i, between the points before it and those after it
abbrev pub IsPositionOf : List Pair → Pair → Result ℕ ℕ → Type 0
IsPositionOf S p (Ok i) = (i < length S) × ((e : Pair) → slice_index_or S i e ≡ p) × All (λ t. IsBefore t p) (take i S)
IsPositionOf S p (Err i) = (i ≤ length S) × All (λ t. IsBefore t p) (take i S) × All (IsBefore p) (drop i S)

-- the point with both coordinates zero
abbrev pub origin : Pair
origin = record { x = pos 0; y = pos 0 }

-- the point of S at i; beyond the end, the origin
abbrev pub point_at : List Pair → ℕ → Pair
point_at S i = slice_index_or S i origin

-- the first point
abbrev pub first_of : List Pair → Pair
first_of S = point_at S 0

-- the last point
abbrev pub last_of : List Pair → Pair
last_of S = point_at S (length S - 1)
