-- The comparison of how far two points lie in a direction: how far the step from the one to the other goes is the
-- difference.
use Rattle.std.proofs.Common.{◌≡◌, ◌∙◌, ℤ, pos, ◌+ℤ◌, ◌-ℤ◌, ◌*ℤ◌, ◌<ℤ◌, arith, true, FitsSigned, to_z, of_z}
use Rattle.std.specs.Prelude.{IsTrue, ◌↔◌}
use Rattle.std.proofs.lemmas.Int.{ints}
use lib.Signed.{lt_z}
use mir.Syntax.{w128}
use Rattle.lattice.specs.Plane.{Pair, product}
use Rattle.lattice.specs.Polynomials.{difference-eq, difference_rules}
use Rattle.lattice.proofs.Vectors.{as_pair}
use Rattle.lattice.proofs.Numbers.{gap_below}

-- how far a step goes in a direction
gone : (d p q : Pair) → d.x *ℤ (q.x -ℤ p.x) +ℤ d.y *ℤ (q.y -ℤ p.y) ≡ product d q -ℤ product d p
unfolding product
gone d p q = rw (as_pair d, as_pair p, as_pair q) (simp difference_rules (difference-eq _ _ _ _ (omega arith)))

-- if a difference is below 0, the first number is less than the second
less : (a b : ℤ) → (a -ℤ b) <ℤ pos 0 → a <ℤ b
less a b h = omega (arith, ints)

-- the test whether a number x is below 0 decides that
below_test : (a x : ℤ) → a ≡ x → FitsSigned w128 a → IsTrue (lt_z (to_z w128 (of_z w128 a)) (pos 0)) ↔ (x <ℤ pos 0)
below_test a x e f = (λ t. omega (arith, ints, t), λ h. yes h)
  where
    yes : x <ℤ pos 0 → lt_z (to_z w128 (of_z w128 a)) (pos 0) ≡ true
    yes h = grind (arith, ints, e, f)

-- the test whether the step from q to p goes back decides which is nearer
pub nearer_test : (d p q : Pair) (far : ℤ) → far ≡ d.x *ℤ (p.x -ℤ q.x) +ℤ d.y *ℤ (p.y -ℤ q.y) → FitsSigned w128 far
    → IsTrue (lt_z (to_z w128 (of_z w128 far)) (pos 0)) ↔ (product d p <ℤ product d q)
nearer_test d p q far e f =
    let test = below_test far _ (e ∙ gone d q p) f in
    (λ h. less _ _ (test.0 h), λ l. test.1 (gap_below _ _ l))
