-- The location of a point relative to a finite set of points: inside its hull, on its boundary, or outside.
use Rattle.std.specs.Prelude.{◌≤ℤ◌, List}
use Rattle.std.specs.List.{All}
use Rattle.lattice.specs.Plane.{Pair, product, IsZero}
use Rattle.lattice.specs.Covers.{Covers}

-- no point of S has a greater product with d than q
abbrev pub IsFarthest : List Pair → Pair → Pair → Type 0
IsFarthest S d q = All (λ t. product d t ≤ℤ product d q) S

-- in some direction, of whole numbers of any size, no point of S is farther than q
abbrev pub IsOuter : List Pair → Pair → Type 0
IsOuter S q = (d : Pair) × ¬ IsZero d × IsFarthest S d q

-- q lies outside
abbrev pub IsOutside : List Pair → Pair → Type 0
IsOutside S q = ¬ Covers S q

-- q lies on the boundary: all of a hull that is one point or one segment is boundary
abbrev pub IsOnBoundary : List Pair → Pair → Type 0
IsOnBoundary S q = Covers S q × IsOuter S q

-- q lies inside
abbrev pub IsInside : List Pair → Pair → Type 0
IsInside S q = Covers S q × ¬ IsOuter S q
