-- The consequences of a comparison of two sides in 128 bits.
use Rattle.std.proofs.Common.{◌≡◌, ℤ, pos, ◌<ℤ◌, ◌≤ℤ◌, arith, true, false, FitsSigned, to_z, of_z}
use Rattle.std.specs.Prelude.{IsTrue, ◌↔◌}
use Rattle.std.proofs.lemmas.Int.{ints}
use lib.Signed.{lt_z, le_z}
use mir.Syntax.{w128}
use Rattle.lattice.specs.Plane.{IsWithin, widest_side}

-- a side fits in 128 bits
pub fits_side : (z : ℤ) → IsWithin widest_side z → FitsSigned w128 z
fits_side z h = omega (arith, ints)

-- the test whether one of two numbers, x and y, is less than the other decides that
pub less_test : (a b x y : ℤ) → a ≡ x → b ≡ y → FitsSigned w128 a → FitsSigned w128 b
    → IsTrue (lt_z (to_z w128 (of_z w128 a)) (to_z w128 (of_z w128 b))) ↔ (x <ℤ y)
less_test a b x y ea eb fa fb = (λ t. omega (arith, ints, t), λ h. yes h)
  where
    yes : x <ℤ y → lt_z (to_z w128 (of_z w128 a)) (to_z w128 (of_z w128 b)) ≡ true
    yes h = grind (arith, ints, ea, eb, fa, fb)

-- a number that is not at most 0 is above 0
pub above_zero : (a x : ℤ) → a ≡ x → FitsSigned w128 a → le_z (to_z w128 (of_z w128 a)) (pos 0) ≡ false → pos 0 <ℤ x
above_zero a x e f h = omega (arith, ints)

-- the test whether a number x is above 0 decides that
pub above_test : (a x : ℤ) → a ≡ x → FitsSigned w128 a → IsTrue (lt_z (pos 0) (to_z w128 (of_z w128 a))) ↔ (pos 0 <ℤ x)
above_test a x e f = (λ t. omega (arith, ints, t), λ h. yes h)
  where
    yes : pos 0 <ℤ x → lt_z (pos 0) (to_z w128 (of_z w128 a)) ≡ true
    yes h = grind (arith, ints, e, f)

-- the test whether a number x is not above 0 decides that
pub below_test : (a x : ℤ) → a ≡ x → FitsSigned w128 a → IsTrue (le_z (to_z w128 (of_z w128 a)) (pos 0)) ↔ (x ≤ℤ pos 0)
below_test a x e f = (λ t. omega (arith, ints, t), λ h. yes h)
  where
    yes : x ≤ℤ pos 0 → le_z (to_z w128 (of_z w128 a)) (pos 0) ≡ true
    yes h = grind (arith, ints, e, f)
