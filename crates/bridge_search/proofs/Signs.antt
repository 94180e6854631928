-- The sign of a side, from the program's test of `orient` against 0.
use Rattle.std.proofs.Common.{◌≡◌, ◌∙◌, arith, Bool, true, false}
use Rattle.std.specs.Prelude.{◌↔◌}
use Rattle.std.specs.Bool.{IsTrue}
use lib.IntN.{ℤ, pos}
use lib.Signed.{◌<ℤ◌, ◌≤ℤ◌, le_z}
use mir.Val.{to_z, of_z}
use mir.Syntax.{w128}
use borrow.Author.Differences.{ints}
use Rattle.lattice.specs.Plane.{Pair, orient, IsWithin, widest_side}
use Rattle.lattice.specs.Crossing.{IsWeightedAtOrBefore, IsCrossingAtOrBefore}
use Rattle.lattice.proofs.Casts.{cast_side}

-- if the test against 0 passes, the side is not negative
pub not_under : (r z : ℤ) → IsWithin widest_side r → r ≡ z → le_z (pos 0) (to_z w128 (of_z w128 r)) ≡ true → pos 0 ≤ℤ z
not_under r z f e h = omega (arith, ints)

-- if the test against 0 fails, the side is negative
pub is_under : (r z : ℤ) → IsWithin widest_side r → r ≡ z → le_z (pos 0) (to_z w128 (of_z w128 r)) ≡ false → z <ℤ pos 0
is_under r z f e h = omega (arith, ints)

-- the test of a crossing by its two sides, which the program cast, is the test of the crossing
pub crossing_returned : (r : Bool) (s t : ℤ) (a b c d m : Pair) → IsWithin widest_side s → IsWithin widest_side t
    → s ≡ orient a b c → t ≡ orient b a d
    → (IsTrue r ↔ IsWeightedAtOrBefore (to_z w128 (of_z w128 s)) (to_z w128 (of_z w128 t)) c d m)
    → IsTrue r ↔ IsCrossingAtOrBefore a b c d m
crossing_returned r s t a b c d m fs ft e g h = rw (cast_side s fs ∙ e, cast_side t ft ∙ g) at h
