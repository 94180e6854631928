-- The location of a point, by one edge of the hull or by two: a lower edge below it and an upper edge above it.
use Rattle.std.proofs.Common.{◌≡◌, ℤ, pos, ◌-ℤ◌, ◌≤ℤ◌, ◌<ℤ◌, ◌⊎◌, List, arith}
use Rattle.std.proofs.lemmas.Int.{ints}
use Rattle.std.proofs.lemmas.List.Elements.{All-weaker}
use Rattle.lattice.specs.Covers.{Covers}
use Rattle.lattice.specs.Places.{IsOuter, IsOutside, IsInside}
use Rattle.lattice.specs.Plane.{Pair, orient, product, IsBefore}
use Rattle.lattice.specs.Vertices.{IsLeftOf}
use Rattle.hull_geometry.specs.Edges.{IsLowerEdge, IsUpperEdge}
use Rattle.hull_geometry.proofs.CoveredByEdges.{covered_by_edges}
use Rattle.hull_geometry.proofs.NotCovered.{Separated, not_covered}
use Rattle.hull_geometry.proofs.Orientation.{at_least, above, orient-cycle}
use Rattle.hull_geometry.proofs.Separators.{across, product-right, across_nonzero}
use Rattle.hull_geometry.proofs.Surrounded.{not_on}

-- a point right of an edge lies farther to the right of it than all of S
pub right_separated : (S : List Pair) (u v q : Pair) → IsLeftOf S u v → orient u v q <ℤ pos 0 → Separated S q
right_separated S u v q h r = (
  across u v,
  All-weaker (λ t. pos 0 ≤ℤ orient u v t) (λ t. product (across u v) t <ℤ product (across u v) q)
      (λ t k. farther _ _ _ _ _ (product-right u v t) (product-right u v q) k r) S h,
)
  where
    farther : (start t q m n : ℤ) → start -ℤ t ≡ m → start -ℤ q ≡ n → pos 0 ≤ℤ m → n <ℤ pos 0 → t <ℤ q
    farther start t q m n e f h k = omega (arith, ints)

-- a point right of an edge lies outside
pub right_outside : (S : List Pair) (u v q : Pair) → IsLeftOf S u v → orient u v q <ℤ pos 0 → IsOutside S q
right_outside S u v q h r = not_covered S q (right_separated S u v q h r)

-- a point on the line of an edge is outer
pub on_line_outer : (S : List Pair) (u v q : Pair) → IsBefore u v ⊎ IsBefore v u → IsLeftOf S u v → orient u v q ≡ pos 0
    → IsOuter S q
on_line_outer S u v q apart h z = (
  across u v,
  across_nonzero u v apart,
  All-weaker (λ t. pos 0 ≤ℤ orient u v t) (λ t. product (across u v) t ≤ℤ product (across u v) q)
      (λ t k. as_far _ _ _ _ _ (product-right u v t) (product-right u v q) k z) S h,
)
  where
    as_far : (start t q m n : ℤ) → start -ℤ t ≡ m → start -ℤ q ≡ n → pos 0 ≤ℤ m → n ≡ pos 0 → t ≤ℤ q
    as_far start t q m n e f h k = omega (arith, ints)

-- a point not right of a lower edge below it and of an upper edge above it is covered
pub between_covered : (S : List Pair) (q a b c d : Pair) → IsLowerEdge S a b → IsUpperEdge S c d → IsBefore a q
    → IsBefore q b → IsBefore q c → IsBefore d q → pos 0 ≤ℤ orient a b q → pos 0 ≤ℤ orient c d q → Covers S q
between_covered S q a b c d e f ha hb hc hd low high =
    covered_by_edges S q a b c d e.from e.to f.from f.to ha hb hc hd (at_least _ _ (orient-cycle a b q) low)
    (at_least _ _ (orient-cycle c d q) high)

-- a point left of both lies inside
pub between_inside : (S : List Pair) (q a b c d : Pair) → IsLowerEdge S a b → IsUpperEdge S c d → IsBefore a q
    → IsBefore q b → IsBefore q c → IsBefore d q → pos 0 <ℤ orient a b q → pos 0 <ℤ orient c d q → IsInside S q
between_inside S q a b c d e f ha hb hc hd low high = (
  between_covered S q a b c d e f ha hb hc hd (not_below _ low) (not_below _ high),
  λ o. o.1 (not_on S q a b c d e.from e.to f.from f.to ha hb hc hd (above _ _ (orient-cycle a b q) low)
      (above _ _ (orient-cycle c d q) high) o.0 o.2),
)
  where
    not_below : (m : ℤ) → pos 0 <ℤ m → pos 0 ≤ℤ m
    not_below m h = omega (arith, ints)
