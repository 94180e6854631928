-- The laws of a commutative ring for the integers, which std does not have.
use Rattle.std.proofs.Common.{◌≡◌, ℕ, suc, ◌+◌, ◌*◌, ◌≤◌, sym, ap, ◌∙◌, arith}
use lib.IntN.{ℤ, pos, negsuc, ◌+ℤ◌, ◌-ℤ◌, ◌*ℤ◌, neg_ℤ, *ℤ_comm}
use Rattle.std.proofs.lemmas.Nat.{mul-le}
use Rattle.lattice.specs.Plane.{IsWithin}
use borrow.Author.Differences.{ints, up, down, sum_is_lem, product_is, neg_is, same_in, same_out, Apart-out, lt_out}
use borrow.Author.Differences.{le_out, below_in, at_most_in}

-- a product with a sum on the right distributes
pub distrib_l : (a b c : ℤ) → a *ℤ (b +ℤ c) ≡ a *ℤ b +ℤ a *ℤ c
distrib_l a b c =
    omega (arith, ints, ap (λ (n : ℕ). up a * n) (sum_is_lem b c), ap (λ (n : ℕ). down a * n) (sum_is_lem b c))

-- a product with a sum on the left distributes
pub distrib_r : (a b c : ℤ) → (a +ℤ b) *ℤ c ≡ a *ℤ c +ℤ b *ℤ c
distrib_r a b c =
    omega (arith, ints, ap (λ (n : ℕ). n * up c) (sum_is_lem a b), ap (λ (n : ℕ). n * down c) (sum_is_lem a b))

-- products are associative
pub mul_assoc : (a b c : ℤ) → (a *ℤ b) *ℤ c ≡ a *ℤ (b *ℤ c)
mul_assoc a b c =
    omega (
      arith,
      ints,
      ap (λ (n : ℕ). n * up c) (product_is a b).0,
      ap (λ (n : ℕ). n * down c) (product_is a b).0,
      ap (λ (n : ℕ). n * up c) (product_is a b).1,
      ap (λ (n : ℕ). n * down c) (product_is a b).1,
      ap (λ (n : ℕ). up a * n) (product_is b c).0,
      ap (λ (n : ℕ). down a * n) (product_is b c).0,
      ap (λ (n : ℕ). up a * n) (product_is b c).1,
      ap (λ (n : ℕ). down a * n) (product_is b c).1,
    )

-- a negated factor on the left negates the product
pub neg_mul_l : (a b : ℤ) → neg_ℤ a *ℤ b ≡ neg_ℤ (a *ℤ b)
neg_mul_l a b =
    omega (
      arith,
      ints,
      ap (λ (n : ℕ). n * up b) (neg_is a).0,
      ap (λ (n : ℕ). n * down b) (neg_is a).0,
      ap (λ (n : ℕ). n * up b) (neg_is a).1,
      ap (λ (n : ℕ). n * down b) (neg_is a).1,
    )

-- a negated factor on the right negates the product
pub neg_mul_r : (a b : ℤ) → a *ℤ neg_ℤ b ≡ neg_ℤ (a *ℤ b)
neg_mul_r a b = *ℤ_comm a (neg_ℤ b) ∙ neg_mul_l b a ∙ ap neg_ℤ (*ℤ_comm b a)

-- the first two of three factors may be exchanged
pub mul_left_comm : (a b c : ℤ) → a *ℤ (b *ℤ c) ≡ b *ℤ (a *ℤ c)
mul_left_comm a b c = sym (mul_assoc a b c) ∙ ap (λ (z : ℤ). z *ℤ c) (*ℤ_comm a b) ∙ mul_assoc b a c

-- the integers as unknowns of a linear problem, products included
pub ruleset linear = (same_out, Apart-out, lt_out, le_out, same_in, below_in, at_most_in, sum_is_lem, neg_is)

pub ruleset ring_laws = (distrib_l, distrib_r, mul_assoc, mul_left_comm, *ℤ_comm, neg_mul_l, neg_mul_r)

-- ---- sizes
-- a sum is at most as large as both sizes together
pub within_add : (j k : ℕ) (a b : ℤ) → IsWithin j a → IsWithin k b → IsWithin (j + k) (a +ℤ b)
within_add j k a b h g = (omega (arith, ints), omega (arith, ints))

-- a difference is at most as large as both sizes together
pub within_sub : (j k : ℕ) (a b : ℤ) → IsWithin j a → IsWithin k b → IsWithin (j + k) (a -ℤ b)
within_sub j k a b h g = (omega (arith, ints), omega (arith, ints))

-- a product is at most as large as the product of the sizes
pub within_mul : (j k : ℕ) (a b : ℤ) → IsWithin j a → IsWithin k b → IsWithin (j * k) (a *ℤ b)
within_mul j k (pos a) (pos b) h g =
    (omega (arith, ints), omega (arith, ints, mul-le a b j k (omega (arith, ints)) (omega (arith, ints))))
within_mul j k (pos a) (negsuc b) h g =
    (omega (arith, ints, mul-le a (suc b) j k (omega (arith, ints)) (omega (arith, ints))), omega (arith, ints))
within_mul j k (negsuc a) (pos b) h g =
    (omega (arith, ints, mul-le (suc a) b j k (omega (arith, ints)) (omega (arith, ints))), omega (arith, ints))
within_mul j k (negsuc a) (negsuc b) h g =
    (omega (arith, ints), omega (arith, ints, mul-le (suc a) (suc b) j k (omega (arith, ints)) (omega (arith, ints))))

-- a number within a bound is within a larger bound
pub within_more : (j k : ℕ) (a : ℤ) → j ≤ k → IsWithin j a → IsWithin k a
within_more j k a l h = (omega (arith, ints), omega (arith, ints))
