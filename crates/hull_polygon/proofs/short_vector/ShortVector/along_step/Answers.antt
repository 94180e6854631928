-- the product of a short component and a component fits in 64 bits
use Rattle.std.proofs.Common.{◌*◌, ◌^◌, lit≤, to_z, of_z}
use lib.IntN.{ℤ, ◌*ℤ◌}
use mir.Syntax.{w64}
use Rattle.lattice.specs.Plane.{IsWithin, nearest, widest}
use Rattle.lattice.specs.Integers.{within_mul, within_more}
use Rattle.lattice.proofs.Casts.{cast_step}
use Rattle.hull_polygon.proofs.short_vector.ShortVector.along_step.Goals as goal

-- the product fits
fits : (u p : ℤ) → IsWithin (2 ^ 20) u → IsWithin (2 * widest) p
    → IsWithin (4 * (nearest * nearest)) (to_z w64 (of_z w64 u) *ℤ to_z w64 (of_z w64 p))
fits u p h k =
    rw (cast_step u (within_more (2 ^ 20) (2 * widest) u (lit≤ tt) h), cast_step p k)
    (within_more (2 ^ 20 * (2 * widest)) (4 * (nearest * nearest)) (u *ℤ p) (lit≤ tt)
    (within_mul (2 ^ 20) (2 * widest) u p h k))

pub sum_of_near_products-requires-clause-first : goal.sum_of_near_products-requires-clause-first
sum_of_near_products-requires-clause-first c = fits _ _ c.self.invariant.0 c.x.ensures.size

pub sum_of_near_products-requires-clause-second : goal.sum_of_near_products-requires-clause-second
sum_of_near_products-requires-clause-second c = fits _ _ c.self.invariant.1 c.y.ensures.size
