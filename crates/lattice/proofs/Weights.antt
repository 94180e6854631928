-- The sign of u*(d - m) + v*(c - m): on which side of m the point (u*d + v*c) / (u + v) is.
use Rattle.std.proofs.Common.{◌≡◌, ◌∙◌, inl, inr, arith, refl, FitsSigned, true, false}
use Rattle.std.specs.Prelude.{◌↔◌}
use Rattle.std.specs.Bool.{IsTrue}
use lib.IntN.{ℤ, pos, ◌+ℤ◌, ◌-ℤ◌, ◌*ℤ◌}
use lib.Signed.{◌<ℤ◌, ◌≤ℤ◌, lt_z, le_z}
use mir.Val.{to_z, of_z}
use mir.Syntax.{w128, w64}
use borrow.Author.Differences.{ints}
use Rattle.lattice.specs.Crossing.{IsAtOrBefore}
use Rattle.lattice.specs.Integers.{linear, ring_laws}
use Rattle.lattice.proofs.Casts.{cast128}

-- the weighted steps from s are the weighted sum minus s times the sum of the weights
weigh : (u v p q s : ℤ) → u *ℤ (p -ℤ s) +ℤ v *ℤ (q -ℤ s) ≡ (u *ℤ p +ℤ v *ℤ q) -ℤ ((u +ℤ v) *ℤ s)
weigh u v p q s = simp ring_laws (omega (arith, linear))

-- the result that the program computed is that difference
pub weight_returned : (r u v p q s p' q' s' : ℤ) → FitsSigned w128 r → FitsSigned w128 u → FitsSigned w128 v
    → to_z w64 (of_z w64 p) ≡ p' → to_z w64 (of_z w64 q) ≡ q' → to_z w64 (of_z w64 s) ≡ s'
    → r ≡ to_z w128 (of_z w128 u) *ℤ (to_z w64 (of_z w64 p) -ℤ to_z w64 (of_z w64 s)) +ℤ to_z w128 (of_z w128 v) *ℤ
    (to_z w64 (of_z w64 q) -ℤ to_z w64 (of_z w64 s))
    → to_z w128 (of_z w128 r) ≡ (u *ℤ p' +ℤ v *ℤ q') -ℤ ((u +ℤ v) *ℤ s')
weight_returned r u v p q s p' q' s' fr fu fv ep eq es e =
    cast128 r fr ∙ (rw (cast128 u fu, cast128 v fv, ep, eq, es) at e) ∙ weigh u v p' q' s'

-- a point below zero in x is before
pub before_in_x : (z x y u v : ℤ) → z ≡ x -ℤ u → lt_z z (pos 0) ≡ true → IsTrue true ↔ IsAtOrBefore x y u v
before_in_x z x y u v e h = (λ _. inl (let k : x <ℤ u = grind (arith, ints) in k), λ _. refl)

-- a point above zero in x is after
pub after_in_x : (z x y u v : ℤ) → z ≡ x -ℤ u → lt_z (pos 0) z ≡ true → IsTrue false ↔ IsAtOrBefore x y u v
after_in_x z x y u v e h = (λ t. cc, λ w. absurd (not_both w))
  where
    above : u <ℤ x
    above = grind (arith, ints)

    not_both : IsAtOrBefore x y u v → ⊥
    not_both (inl k) = omega (arith, ints, above)
    not_both (inr k) = omega (arith, ints, above, k.0)

-- a point at zero in x is compared by y
pub by_y : (z w x y u v : ℤ) → z ≡ x -ℤ u → w ≡ y -ℤ v → lt_z z (pos 0) ≡ false → lt_z (pos 0) z ≡ false
    → IsTrue (le_z w (pos 0)) ↔ IsAtOrBefore x y u v
by_y z w x y u v e f h k = (λ t. inr (same, below t), back)
  where
    same : x ≡ u
    same = grind (arith, ints)

    below : le_z w (pos 0) ≡ true → y ≤ℤ v
    below t = grind (arith, ints)

    back : IsAtOrBefore x y u v → le_z w (pos 0) ≡ true
    back (inl m) = absurd (omega (arith, ints, same))
    back (inr m) = let g : y ≤ℤ v = m.1 in grind (arith, ints)
