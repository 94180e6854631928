-- Identities of the ring of whole numbers. `difference a b` is a - b for two naturals. Each whole number is such a
-- difference, and so are sums and products of differences, so an identity becomes an equation of naturals, which omega
-- decides.
use Rattle.std.proofs.Common.{◌≡◌, ℕ, ◌+◌, ◌-◌, ◌*◌, ℤ, pos, ◌+ℤ◌, ◌*ℤ◌, neg_ℤ, arith}
use Rattle.std.proofs.Common.{◌⊎◌, inl, inr}
use Rattle.std.proofs.lemmas.Bool.{cases_lt}
use Rattle.std.proofs.lemmas.Int.{ints}
use borrow.Author.Differences.{up, down, same_in, sum_is_lem, neg_is, product_is}

-- a - b, as it computes
abbrev raw : ℕ → ℕ → ℤ
raw a b = pos a +ℤ neg_ℤ (pos b)

-- a - b, as a name that does not compute
pub difference : ℕ → ℕ → ℤ
difference a b = raw a b

-- the difference of two naturals, as an equation of naturals
difference-is : (a b : ℕ) → up (difference a b) + b ≡ down (difference a b) + a
unfolding difference
difference-is a b = omega (arith, ints)

-- two differences are equal if their crossed sums are
pub difference-eq : (a b c d : ℕ) → a + d ≡ c + b → difference a b ≡ difference c d
difference-eq a b c d e =
    same_in (difference a b) (difference c d) (omega (arith, difference-is a b, difference-is c d))

-- each whole number is a difference of two naturals
pub as_difference : (z : ℤ) → z ≡ difference (up z) (down z)
as_difference z = same_in z (difference (up z) (down z)) (omega (arith, difference-is (up z) (down z)))

-- a sum of differences is a difference
pub difference-add : (a b c d : ℕ) → difference a b +ℤ difference c d ≡ difference (a + c) (b + d)
difference-add a b c d =
    same_in (difference a b +ℤ difference c d) (difference (a + c) (b + d))
    (omega (
      arith,
      difference-is a b,
      difference-is c d,
      difference-is (a + c) (b + d),
      sum_is_lem (difference a b) (difference c d),
    ))

-- a negated difference is a difference
pub difference-neg : (a b : ℕ) → neg_ℤ (difference a b) ≡ difference b a
difference-neg a b =
    same_in (neg_ℤ (difference a b)) (difference b a)
    (omega (arith, difference-is a b, difference-is b a, neg_is (difference a b)))

-- a is b and k more, or b is a and k more
split : (a b : ℕ) → ((k : ℕ) × (a ≡ b + k)) ⊎ ((k : ℕ) × (b ≡ a + k))
split a b = elim (cases_lt a b) [ inl h ↦ inr (b - a, omega arith) | inr h ↦ inl (a - b, omega arith) ]

-- the equation of naturals for a product of differences
prod : (u v w x a b c d : ℕ) → u + b ≡ v + a → w + d ≡ x + c
    → (u * w + v * x) + (a * d + b * c) ≡ (a * c + b * d) + (u * x + v * w)
prod u v w x a b c d e f =
    elim (split a b) [
      | inl p ↦ elim (split c d) [
        | inl q ↦ let u-is : u ≡ v + p.0 = omega (arith, p.1) in let w-is : w ≡ x + q.0 = omega (arith, q.1) in
            rw (u-is, w-is, p.1, q.1) (omega arith)
        | inr q ↦ let u-is : u ≡ v + p.0 = omega (arith, p.1) in let x-is : x ≡ w + q.0 = omega (arith, q.1) in
            rw (u-is, x-is, p.1, q.1) (omega arith)
      ]
      | inr p ↦ elim (split c d) [
        | inl q ↦ let v-is : v ≡ u + p.0 = omega (arith, p.1) in let w-is : w ≡ x + q.0 = omega (arith, q.1) in
            rw (v-is, w-is, p.1, q.1) (omega arith)
        | inr q ↦ let v-is : v ≡ u + p.0 = omega (arith, p.1) in let x-is : x ≡ w + q.0 = omega (arith, q.1) in
            rw (v-is, x-is, p.1, q.1) (omega arith)
      ]
    ]

-- a product of differences is a difference
pub difference-mul : (a b c d : ℕ) → difference a b *ℤ difference c d ≡ difference (a * c + b * d) (a * d + b * c)
difference-mul a b c d =
    same_in (difference a b *ℤ difference c d) (difference (a * c + b * d) (a * d + b * c))
    (omega (
      arith,
      prod (up (difference a b)) (down (difference a b)) (up (difference c d))
          (down (difference c d)) a b c d (difference-is a b) (difference-is c d),
      difference-is (a * c + b * d) (a * d + b * c),
      product_is (difference a b) (difference c d),
    ))

-- a difference is a natural number if the equation of naturals holds
pub difference-pos : (a b n : ℕ) → a ≡ n + b → difference a b ≡ pos n
difference-pos a b n e = same_in (difference a b) (pos n) (omega (arith, difference-is a b))

-- a polynomial of differences is a difference: `simp difference_rules` reduces an identity to two naturals on each side
pub ruleset difference_rules = (difference-add, difference-neg, difference-mul)
