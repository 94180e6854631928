-- An octagon inside a hull.
use Rattle.std.specs.Prelude.{ℤ, ◌+ℤ◌, ◌-ℤ◌, ◌<ℤ◌, List}
use Rattle.lattice.specs.Covers.{IsPointSet}
use Rattle.lattice.specs.Places.{IsInside}
use Rattle.lattice.specs.Plane.{Pair}
use Rattle.hull_geometry.specs.Monotone.{AreChainsOf}
use Rattle.hull_plain.specs.declared.octagon.Span.{Span}
use Rattle.hull_plain.specs.declared.octagon.Rectangle.{Rectangle}
use Rattle.hull_plain.specs.declared.octagon.Octagon.{Octagon}

-- z is in the span
abbrev pub IsBetween : Span → ℤ → Type 0
IsBetween s z = (s.low <ℤ z) × (z <ℤ s.high)

-- the pair of x and y is in the rectangle
abbrev pub IsInRectangle : Rectangle → ℤ → ℤ → Type 0
IsInRectangle r x y = IsBetween r.x x × IsBetween r.y y

-- q is in the octagon
abbrev pub IsInOctagon : Octagon → Pair → Type 0
IsInOctagon o q = IsInRectangle o.upright q.x q.y × IsInRectangle o.diagonal (q.x +ℤ q.y) (q.x -ℤ q.y)

-- each point in the octagon lies inside each set whose chains these are
abbrev pub IsOctagonInside : List Pair → List Pair → Octagon → Type 0
IsOctagonInside lower upper o =
    (S : List Pair) → IsPointSet S → AreChainsOf S lower upper → (q : Pair) → IsInOctagon o q → IsInside S q
