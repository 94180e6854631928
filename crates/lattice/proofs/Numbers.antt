-- Whole numbers: their order, and what follows from differences and opposites.
use Rattle.std.proofs.Common.{◌≡◌, ℤ, pos, ◌+ℤ◌, ◌-ℤ◌, ◌≤ℤ◌, ◌<ℤ◌, neg_ℤ, inl, inr, arith}
use Rattle.std.proofs.lemmas.Int.{ints}
use Rattle.lattice.specs.Signs.{le_or_lt}

-- a number above 0 is not below it
pub nn_above : (x : ℤ) → pos 0 <ℤ x → pos 0 ≤ℤ x
nn_above x h = omega (arith, ints)

-- a number below 0 is not above it
pub np_below : (x : ℤ) → x <ℤ pos 0 → x ≤ℤ pos 0
np_below x h = omega (arith, ints)

-- a number is at most itself
pub le_itself : (x : ℤ) → x ≤ℤ x
le_itself x = omega (arith, ints)

-- a number less than another is at most that
pub le_less : (x y : ℤ) → x <ℤ y → x ≤ℤ y
le_less x y h = omega (arith, ints)

-- a number is at most another if a third is between them
pub le_trans : (x y z : ℤ) → x ≤ℤ y → y ≤ℤ z → x ≤ℤ z
le_trans x y z h k = omega (arith, ints)

-- a number is less than another if it is at most a third that is less than the other
pub le_less_trans : (x y z : ℤ) → x ≤ℤ y → y <ℤ z → x <ℤ z
le_less_trans x y z h k = omega (arith, ints)

-- a number is less than another if it is less than a third that is at most the other
pub less_le_trans : (x y z : ℤ) → x <ℤ y → y ≤ℤ z → x <ℤ z
less_le_trans x y z h k = omega (arith, ints)

-- of two numbers not each is the lesser
pub less_not_le : (x y : ℤ) → x <ℤ y → y ≤ℤ x → ⊥
less_not_le x y h k = omega (arith, ints)

-- a number below 0 is less than one above 0
pub less_across : (x y : ℤ) → x <ℤ pos 0 → pos 0 <ℤ y → x <ℤ y
less_across x y h k = omega (arith, ints)

-- a number that is neither below 0 nor above it is 0
pub zero_between : (x : ℤ) → pos 0 ≤ℤ x → x ≤ℤ pos 0 → x ≡ pos 0
zero_between x h k = omega (arith, ints)

-- no number is both below 0 and not below it
pub nn_not_below : (x : ℤ) → pos 0 ≤ℤ x → x <ℤ pos 0 → ⊥
nn_not_below x h k = omega (arith, ints)

-- 0 is not below 0
pub nn_zero : (x : ℤ) → x ≡ pos 0 → pos 0 ≤ℤ x
nn_zero x e = omega (arith, ints)

-- a sum of two that are not below 0 is not below 0
pub sum_nn : (x y : ℤ) → pos 0 ≤ℤ x → pos 0 ≤ℤ y → pos 0 ≤ℤ (x +ℤ y)
sum_nn x y h k = omega (arith, ints)

-- a sum of one that is not below 0 and one above 0 is above 0
pub sum_above : (s x y : ℤ) → s ≡ x +ℤ y → pos 0 ≤ℤ x → pos 0 <ℤ y → pos 0 <ℤ s
sum_above s x y e h k = omega (arith, ints)

-- the greater minus the lesser is above 0
pub gap_above : (x y : ℤ) → x <ℤ y → pos 0 <ℤ (y -ℤ x)
gap_above x y h = omega (arith, ints)

-- the lesser minus the greater is below 0
pub gap_below : (x y : ℤ) → x <ℤ y → (x -ℤ y) <ℤ pos 0
gap_below x y h = omega (arith, ints)

-- a number minus one that is no more is not below 0
pub gap_nn : (x y : ℤ) → x ≤ℤ y → pos 0 ≤ℤ (y -ℤ x)
gap_nn x y h = omega (arith, ints)

-- a number minus one that is no less is not above 0
pub gap_np : (x y : ℤ) → x ≤ℤ y → (x -ℤ y) ≤ℤ pos 0
gap_np x y h = omega (arith, ints)

-- a number minus itself is 0
pub gap_none : (x : ℤ) → x -ℤ x ≡ pos 0
gap_none x = omega (arith, ints)

-- if a difference is not below 0, the second number is at most the first
pub le_by_gap : (x y : ℤ) → pos 0 ≤ℤ (x -ℤ y) → y ≤ℤ x
le_by_gap x y h = omega (arith, ints)

-- if a difference is 0, its numbers are equal
pub equal_by_gap : (x y : ℤ) → x -ℤ y ≡ pos 0 → x ≡ y
equal_by_gap x y e = omega (arith, ints)

-- if a difference is a number that is 0, its numbers are equal
pub equal_by_none : (x y z : ℤ) → x -ℤ y ≡ z → z ≡ pos 0 → x ≡ y
equal_by_none x y z e f = omega (arith, ints)

-- if a difference is above 0, the second number is less than the first
pub less_by_gap : (x y z : ℤ) → x -ℤ y ≡ z → pos 0 <ℤ z → y <ℤ x
less_by_gap x y z e h = omega (arith, ints)

-- the greater minus the lesser, under another name, is above 0
pub above_by_less : (x y z : ℤ) → x ≡ y -ℤ z → z <ℤ y → pos 0 <ℤ x
above_by_less x y z e h = omega (arith, ints)

-- the lesser minus the greater, under another name, is below 0
pub below_by_less : (x y z : ℤ) → x ≡ y -ℤ z → y <ℤ z → x <ℤ pos 0
below_by_less x y z e h = omega (arith, ints)

-- a number minus one that is no more, under another name, is not below 0
pub nn_by_le : (x y z : ℤ) → x ≡ y -ℤ z → z ≤ℤ y → pos 0 ≤ℤ x
nn_by_le x y z e h = omega (arith, ints)

-- if a difference is a sum of two not below 0, the second number is at most the first
pub le_by_sum : (x y z w : ℤ) → x -ℤ y ≡ z +ℤ w → pos 0 ≤ℤ z → pos 0 ≤ℤ w → y ≤ℤ x
le_by_sum x y z w e h k = omega (arith, ints)

-- the same, strictly, if the first of them is above 0
pub less_by_sum : (x y z w : ℤ) → x -ℤ y ≡ z +ℤ w → pos 0 <ℤ z → pos 0 ≤ℤ w → y <ℤ x
less_by_sum x y z w e h k = omega (arith, ints)

-- if a difference is the opposite of a number not below 0, the first number is at most the second
pub le_by_opposite : (x y z w : ℤ) → x -ℤ y ≡ z → z ≡ neg_ℤ w → pos 0 ≤ℤ w → x ≤ℤ y
le_by_opposite x y z w e f h = omega (arith, ints)

-- if a difference is the opposite of one below 0, the second number is less than the first
pub less_by_opposite : (x y z w : ℤ) → x -ℤ y ≡ z → z ≡ neg_ℤ w → w <ℤ pos 0 → y <ℤ x
less_by_opposite x y z w e f h = omega (arith, ints)

-- a number that is equal to one not above 0 is not above 0
pub np_by : (x y : ℤ) → x ≡ y → y ≤ℤ pos 0 → x ≤ℤ pos 0
np_by x y e h = omega (arith, ints)

-- no number above 0 is equal to one that is not above 0
pub above_not_np : (x y : ℤ) → x ≡ y → pos 0 <ℤ x → y ≤ℤ pos 0 → ⊥
above_not_np x y e h k = omega (arith, ints)

-- no number below 0 is equal to one that is not below 0
pub below_not_nn : (x y : ℤ) → x ≡ y → x <ℤ pos 0 → pos 0 ≤ℤ y → ⊥
below_not_nn x y e h k = omega (arith, ints)

-- the opposite of a number above 0 is below 0
pub below_opposite : (x y : ℤ) → x ≡ neg_ℤ y → pos 0 <ℤ y → x <ℤ pos 0
below_opposite x y e h = omega (arith, ints)

-- the opposite of a number below 0 is above 0
pub above_opposite : (x y : ℤ) → x ≡ neg_ℤ y → y <ℤ pos 0 → pos 0 <ℤ x
above_opposite x y e h = omega (arith, ints)

-- the opposite of a number not below 0 is not above 0
pub np_opposite : (x y : ℤ) → x ≡ neg_ℤ y → pos 0 ≤ℤ y → x ≤ℤ pos 0
np_opposite x y e h = omega (arith, ints)

-- the opposite of a number not above 0 is not below 0
pub nn_opposite : (x y : ℤ) → x ≡ neg_ℤ y → y ≤ℤ pos 0 → pos 0 ≤ℤ x
nn_opposite x y e h = omega (arith, ints)

-- the opposite of 0 is 0
pub zero_opposite : (x y : ℤ) → x ≡ neg_ℤ y → y ≡ pos 0 → x ≡ pos 0
zero_opposite x y e f = omega (arith, ints)

-- opposites are in the reversed order
pub le_opposites : (x y z w : ℤ) → x ≡ neg_ℤ z → y ≡ neg_ℤ w → x ≤ℤ y → w ≤ℤ z
le_opposites x y z w e f h = omega (arith, ints)

-- opposites are in the reversed strict order
pub less_opposites : (x y z w : ℤ) → x ≡ neg_ℤ z → y ≡ neg_ℤ w → x <ℤ y → w <ℤ z
less_opposites x y z w e f h = omega (arith, ints)

-- a number that is not less than another is at least the other
pub not_less : (x y : ℤ) → ¬ (x <ℤ y) → y ≤ℤ x
not_less x y n = elim (le_or_lt y x) [ inl h ↦ h | inr h ↦ absurd (n h) ]

-- a number that is not at most another is more than the other
pub not_at_most : (x y : ℤ) → ¬ (x ≤ℤ y) → y <ℤ x
not_at_most x y n = elim (le_or_lt x y) [ inl h ↦ absurd (n h) | inr h ↦ h ]

-- a number that is not unequal to 0 is 0
pub not_apart : (x : ℤ) → ¬ ¬ (x ≡ pos 0) → x ≡ pos 0
not_apart x n = elim (le_or_lt x (pos 0)) [
  | inl h ↦ elim (le_or_lt (pos 0) x) [ inl k ↦ omega (arith, ints) | inr k ↦ absurd (n (λ e. omega (arith, ints, e))) ]
  | inr h ↦ absurd (n (λ e. omega (arith, ints, e)))
]
