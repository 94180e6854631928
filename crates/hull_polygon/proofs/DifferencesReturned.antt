-- Differences of products in 128 bits, as the program computes them.
use Rattle.std.proofs.lemmas.Grind.{common_steps}
use Rattle.std.proofs.Common.{◌≡◌, ◌∙◌, ◌*◌, ◌^◌, ◌≤ℤ◌, pos, neg_ℤ, lit≤, sym, subst, arith}
use borrow.Author.Differences.{ints}
use lib.IntN.{ℤ, ◌-ℤ◌}
use mir.Val.{to_z, of_z}
use mir.Syntax.{w128}
use Rattle.std.proofs.Common.{ap}
use Rattle.lattice.specs.Plane.{IsWithin, widest_side}
use Rattle.lattice.specs.Integers.{within_more}
use Rattle.lattice.proofs.Casts.{cast_sub}

-- subtracting one product from another loses nothing
pub difference_returned : (m n x y : ℤ) → IsWithin widest_side m → IsWithin widest_side n → m ≡ x → n ≡ y
    → to_z w128 (of_z w128 (to_z w128 (of_z w128 m) -ℤ to_z w128 (of_z w128 n))) ≡ x -ℤ y
difference_returned m n x y h k e f =
    cast_sub m n (within_more widest_side (2 ^ 125) m (lit≤ tt) h) (within_more widest_side (2 ^ 125) n (lit≤ tt) k)
    ∙ ap (λ (z : ℤ). z -ℤ n) e ∙ ap (λ (z : ℤ). x -ℤ z) f

-- a cast keeps a number that fits
pub returned : (z : ℤ) → IsWithin (2 * widest_side) z → to_z w128 (of_z w128 z) ≡ z
returned z h = omega (arith, ints)

-- a number within a bound is within twice that bound
pub twice : (z : ℤ) → IsWithin widest_side z → IsWithin (2 * widest_side) z
twice z h = within_more widest_side (2 * widest_side) z (lit≤ tt) h

-- a comparison of two casts compares their values
pub le_returned : (m n x y : ℤ) → IsWithin (2 * widest_side) m → IsWithin (2 * widest_side) n → m ≡ x → n ≡ y → x ≤ℤ y
    → to_z w128 (of_z w128 m) ≤ℤ to_z w128 (of_z w128 n)
le_returned m n x y h k e f l = grind (arith, common_steps, n, returned, h, e, f)

-- the difference of two casts is that of their values
pub excess_returned : (r : ℤ) (m n x y : ℤ) → IsWithin (2 * widest_side) m → IsWithin (2 * widest_side) n → m ≡ x → n ≡ y
    → r ≡ to_z w128 (of_z w128 m) -ℤ to_z w128 (of_z w128 n) → r ≡ x -ℤ y
excess_returned r m n x y h k e f g =
    g ∙ ap (λ (z : ℤ). z -ℤ to_z w128 (of_z w128 n)) (returned m h ∙ e) ∙ ap (λ (z : ℤ). x -ℤ z) (returned n k ∙ f)

-- subtracting nothing keeps the value
pub whole_returned : (r m x : ℤ) → IsWithin (2 * widest_side) m → m ≡ x → r ≡ to_z w128 (of_z w128 m) -ℤ pos 0 → r ≡ x
whole_returned r m x h e g = omega (arith, ints, g, returned m h, e)

-- subtracting from nothing negates the value
pub less_returned : (r n y : ℤ) → IsWithin (2 * widest_side) n → n ≡ y → r ≡ pos 0 -ℤ to_z w128 (of_z w128 n) → r ≡ neg_ℤ y
less_returned r n y k f g = omega (arith, ints, g, returned n k, f)

-- a number within the bound is within it after the cast
pub returned_within : (z : ℤ) → IsWithin widest_side z → IsWithin (2 * widest_side) (to_z w128 (of_z w128 z))
returned_within z h = subst (IsWithin (2 * widest_side)) (sym (returned z (twice z h))) (twice z h)

-- a number that is not below 0 is not below it after the cast
pub none_returned : (m x : ℤ) → IsWithin (2 * widest_side) m → m ≡ x → pos 0 ≤ℤ x → pos 0 ≤ℤ to_z w128 (of_z w128 m)
none_returned m x h e l = subst (λ (z : ℤ). pos 0 ≤ℤ z) (sym (returned m h ∙ e)) l
