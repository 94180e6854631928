-- The results of the program's casts and sums in 64 and 128 bits, for numbers of a known size.
use Rattle.std.proofs.Common.{◌≡◌, ◌+◌, ◌*◌, ◌^◌, ◌∙◌, arith, lit≤, FitsSigned}
use Rattle.std.proofs.lemmas.Int.{to_z-of_z}
use lib.IntN.{ℤ, ◌+ℤ◌, ◌-ℤ◌, ◌*ℤ◌}
use mir.Val.{to_z, of_z}
use mir.Syntax.{w128, w64}
use borrow.Author.Differences.{ints}
use Rattle.lattice.specs.Plane.{IsWithin, widest, widest_side, nearest, IsCoordinate}
use Rattle.lattice.specs.Integers.{within_add, within_sub, within_mul, within_more}

-- a cast to 64 bits keeps a number that is no larger than a coordinate
pub cast64 : (z : ℤ) → IsWithin widest z → to_z w64 (of_z w64 z) ≡ z
cast64 z h = omega (arith, ints)

-- a cast to 64 bits keeps any number that fits
pub cast_long : (z : ℤ) → FitsSigned w64 z → to_z w64 (of_z w64 z) ≡ z
cast_long z h = to_z-of_z w64 z h

-- a cast to 128 bits keeps any number that fits
pub cast128 : (z : ℤ) → FitsSigned w128 z → to_z w128 (of_z w128 z) ≡ z
cast128 z h = to_z-of_z w128 z h

-- u - v in 64 bits, cast to 128, is u - v
pub cast_difference : (u v : ℤ) → IsWithin widest u → IsWithin widest v
    → to_z w128 (of_z w128 (to_z w64 (of_z w64 (to_z w64 (of_z w64 u) -ℤ to_z w64 (of_z w64 v))))) ≡ u -ℤ v
cast_difference u v hu hv = omega (arith, ints)

-- a difference of two numbers of 128 bits that are small enough
pub cast_sub : (m n : ℤ) → IsWithin (2 ^ 125) m → IsWithin (2 ^ 125) n
    → to_z w128 (of_z w128 (to_z w128 (of_z w128 m) -ℤ to_z w128 (of_z w128 n))) ≡ m -ℤ n
cast_sub m n h k = omega (arith, ints)

-- a sum of two numbers of 128 bits that are small enough
pub cast_add : (m n : ℤ) → IsWithin (2 ^ 125) m → IsWithin (2 ^ 125) n
    → to_z w128 (of_z w128 (to_z w128 (of_z w128 m) +ℤ to_z w128 (of_z w128 n))) ≡ m +ℤ n
cast_add m n h k = omega (arith, ints)

-- the limit of coordinates is safe
pub coordinate_within : (z : ℤ) → IsCoordinate z → IsWithin widest z
coordinate_within z h = omega (arith, ints)

-- a side times a difference of two coordinates is within 2^125
pub weight_within : (u p r : ℤ) → IsWithin widest_side u → IsWithin widest p → IsWithin widest r
    → IsWithin (2 ^ 125) (u *ℤ (p -ℤ r))
weight_within u p r hu hp hr =
    within_more (widest_side * (widest + widest)) (2 ^ 125) (u *ℤ (p -ℤ r)) (lit≤ tt)
    (within_mul widest_side (widest + widest) u (p -ℤ r) hu (within_sub widest widest p r hp hr))

-- a coordinate that a point returned is kept by a cast to 64 bits
pub cast_returned : (z w : ℤ) → IsCoordinate z → z ≡ w → to_z w64 (of_z w64 z) ≡ w
cast_returned z w h e = cast64 z (coordinate_within z h) ∙ e

-- a sum of two small enough numbers fits 128 bits
pub sum_fits : (m n : ℤ) → IsWithin (2 ^ 125) m → IsWithin (2 ^ 125) n
    → FitsSigned w128 (to_z w128 (of_z w128 m) +ℤ to_z w128 (of_z w128 n))
sum_fits m n h k = omega (arith, ints)

-- a cast to 128 bits keeps a side
pub cast_side : (z : ℤ) → IsWithin widest_side z → to_z w128 (of_z w128 z) ≡ z
cast_side z h = omega (arith, ints)

-- a cast to 64 bits keeps a difference of coordinates
pub cast_step : (z : ℤ) → IsWithin (2 * widest) z → to_z w64 (of_z w64 z) ≡ z
cast_step z h = omega (arith, ints)

-- such a difference, cast to 64 and then to 128 bits, is the same
pub cast_wide : (z : ℤ) → IsWithin (2 * widest) z → to_z w128 (of_z w128 (to_z w64 (of_z w64 z))) ≡ z
cast_wide z h = omega (arith, ints)

-- a product of two of them is no larger than the widest product
pub pair_small : (u p : ℤ) → IsWithin (2 * widest) u → IsWithin (2 * widest) p → IsWithin (2 ^ 125) (u *ℤ p)
pair_small u p h k = within_more _ (2 ^ 125) (u *ℤ p) (lit≤ tt) (within_mul (2 * widest) (2 * widest) u p h k)

-- (u - v) * (p - q), of coordinates
pub minor_within : (u v p q : ℤ) → IsWithin widest u → IsWithin widest v → IsWithin widest p → IsWithin widest q
    → IsWithin (4 * (widest * widest)) ((u -ℤ v) *ℤ (p -ℤ q))
minor_within u v p q hu hv hp hq =
    within_mul (widest + widest) (widest + widest) (u -ℤ v) (p -ℤ q) (within_sub widest widest u v hu hv)
    (within_sub widest widest p q hp hq)

-- such a product is no larger than the widest product
pub minor_small : (z : ℤ) → IsWithin (4 * (widest * widest)) z → IsWithin (2 ^ 125) z
minor_small z h = within_more (4 * (widest * widest)) (2 ^ 125) z (lit≤ tt) h

-- ---- near points
-- u - v of near coordinates
pub cast_near_difference : (u v : ℤ) → IsWithin nearest u → IsWithin nearest v
    → to_z w64 (of_z w64 (to_z w64 (of_z w64 u) -ℤ to_z w64 (of_z w64 v))) ≡ u -ℤ v
cast_near_difference u v hu hv = omega (arith, ints)

-- (u - v) * (p - q), of near coordinates
pub near_within : (u v p q : ℤ) → IsWithin nearest u → IsWithin nearest v → IsWithin nearest p → IsWithin nearest q
    → IsWithin (4 * (nearest * nearest)) ((u -ℤ v) *ℤ (p -ℤ q))
near_within u v p q hu hv hp hq =
    within_mul (nearest + nearest) (nearest + nearest) (u -ℤ v) (p -ℤ q) (within_sub nearest nearest u v hu hv)
    (within_sub nearest nearest p q hp hq)

-- a product of differences of near coordinates fits
pub cast_near_product : (z : ℤ) → IsWithin (4 * (nearest * nearest)) z → to_z w64 (of_z w64 z) ≡ z
cast_near_product z h = omega (arith, ints)

-- the difference of two such products fits in 64 bits, and cast to 128 it is the same
pub cast_near_side : (m n : ℤ) → IsWithin (4 * (nearest * nearest)) m → IsWithin (4 * (nearest * nearest)) n
    → to_z w128 (of_z w128 (to_z w64 (of_z w64 (to_z w64 (of_z w64 m) -ℤ to_z w64 (of_z w64 n))))) ≡ m -ℤ n
cast_near_side m n h k = omega (arith, ints)

-- the difference of two such products is no larger than a side
pub near_side_within : (m n : ℤ) → IsWithin (4 * (nearest * nearest)) m → IsWithin (4 * (nearest * nearest)) n
    → IsWithin widest_side (m -ℤ n)
near_side_within m n h k =
    within_more (4 * (nearest * nearest) + 4 * (nearest * nearest)) widest_side (m -ℤ n) (lit≤ tt)
    (within_sub (4 * (nearest * nearest)) (4 * (nearest * nearest)) m n h k)

-- the sum of two near products fits in 64 bits, and cast to 128 it is the same
pub cast_near_sum : (m n : ℤ) → IsWithin (4 * (nearest * nearest)) m → IsWithin (4 * (nearest * nearest)) n
    → to_z w128 (of_z w128 (to_z w64 (of_z w64 (to_z w64 (of_z w64 m) +ℤ to_z w64 (of_z w64 n))))) ≡ m +ℤ n
cast_near_sum m n h k = omega (arith, ints)

-- the sum of two such products is no larger than a side
pub near_sum_within : (m n : ℤ) → IsWithin (4 * (nearest * nearest)) m → IsWithin (4 * (nearest * nearest)) n
    → IsWithin widest_side (m +ℤ n)
near_sum_within m n h k =
    within_more (4 * (nearest * nearest) + 4 * (nearest * nearest)) widest_side (m +ℤ n) (lit≤ tt)
    (within_add (4 * (nearest * nearest)) (4 * (nearest * nearest)) m n h k)
