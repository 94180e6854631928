-- The lowest and the highest index of a mask, and its indices up to their middle and after it.
use Rattle.std.proofs.lemmas.Grind.{common_steps}
use Rattle.std.proofs.Common.{◌≡◌, ℕ, suc, ◌+◌, ◌-◌, ◌*◌, ◌/◌, ◌%◌, ◌^◌, ◌<◌, ◌≤◌, sym, ap, ◌∙◌, subst, arith, w64}
use Rattle.std.proofs.Common.{inl, inr}
use Rattle.std.proofs.lemmas.Bool.{cases_lt}
use Rattle.std.specs.Int.{bit_at}
use Rattle.std.proofs.lemmas.Nat.{pow_pos, leading_top, mod-pow-add, mod_low, mod_below, shr_split, pow-add, row_fits}
use Rattle.std.proofs.lemmas.Nat.{mul-le}
use Rattle.std.proofs.lemmas.Nat.Bits.{bit_at-trailing_zeros, bit_at-lt, bit_at_cat_low, bit_at_cat_high, bit_at_above}
use Rattle.std.proofs.lemmas.Nat.Bits.{bit_at-zero}
use Rattle.hull_buckets.specs.Masks.{lowest_of, highest_of}
use Rattle.hull_buckets.specs.Slices.{width_of, split_of, left_slice, right_slice}
use Rattle.hull_buckets.proofs.Words.{one_more, none_below, top_before, lowest_from, power_le}

-- ---- the lowest and the highest index

-- up to its lowest bit a number has only that bit
pub up_to_lowest : (n : ℕ) → 0 < n → n < 2 ^ 64 → n % 2 ^ (lowest_of n + 1) ≡ 2 ^ lowest_of n
up_to_lowest n some fits =
    let b = bit_at-trailing_zeros w64 n some fits in
    let none = none_below n (lowest_of n) b.2 in
    one_more n (lowest_of n)
    ∙ ap (λ (z : ℕ). z * 2 ^ lowest_of n + n % 2 ^ lowest_of n) b.1
    ∙ ap (λ (z : ℕ). 1 * 2 ^ lowest_of n + z) none ∙ (omega arith)

-- and none below it
pub none_before : (n : ℕ) → 0 < n → n < 2 ^ 64 → n % 2 ^ lowest_of n ≡ 0
none_before n some fits = none_below n (lowest_of n) (bit_at-trailing_zeros w64 n some fits).2

-- its highest bit
pub highest_there : (n : ℕ) → 0 < n → n < 2 ^ 64 → 2 ^ highest_of n ≤ n
highest_there n some fits =
    let t = leading_top 64 n some fits in
    let e : t.0 ≡ highest_of n = omega (arith, t.1) in
    subst (λ (k : ℕ). 2 ^ k ≤ n) e t.2

pub highest_above : (n : ℕ) → 0 < n → n < 2 ^ 64 → n < 2 ^ (highest_of n + 1)
highest_above n some fits =
    let t = leading_top 64 n some fits in
    let e : suc t.0 ≡ highest_of n + 1 = omega (arith, t.1) in
    subst (λ (k : ℕ). n < 2 ^ k) e t.3

-- if a number has a bit and none below, that is its lowest
pub lowest_is : (n k : ℕ) → 0 < n → n < 2 ^ 64 → n % 2 ^ (k + 1) ≡ 2 ^ k → n % 2 ^ k ≡ 0 → lowest_of n ≡ k
lowest_is n k some fits there none =
    let a = lowest_from n k (lowest_of n) none (up_to_lowest n some fits) in
    let b = lowest_from n (lowest_of n) k (none_before n some fits) there in
    omega (arith, a, b)

-- if it has a bit and none above, that is its highest
pub highest_is : (n k : ℕ) → 0 < n → n < 2 ^ 64 → 2 ^ k ≤ n → n < 2 ^ (k + 1) → highest_of n ≡ k
highest_is n k some fits there above =
    let a = top_before n k (highest_of n + 1) there (highest_above n some fits) in
    let b = top_before n (highest_of n) (k + 1) (highest_there n some fits) above in
    omega (arith, a, b)

-- the lowest is not above the highest
pub lowest_to_highest : (n : ℕ) → 0 < n → n < 2 ^ 64 → lowest_of n ≤ highest_of n
lowest_to_highest n some fits =
    let s = shr_split n (lowest_of n + 1) in
    let e = up_to_lowest n some fits in
    let t = top_before n (lowest_of n) (highest_of n + 1) (omega (arith, s, e)) (highest_above n some fits) in
    omega (arith, t)

-- a bit that is set is from the lowest to the highest
pub bit_from : (n i : ℕ) → 0 < n → n < 2 ^ 64 → bit_at n i ≡ 1 → lowest_of n ≤ i
bit_from n i some fits e = elim (cases_lt i (lowest_of n)) [
  | inl l ↦ absurd (let z = (bit_at-trailing_zeros w64 n some fits).2 i l in omega (arith, e, z))
  | inr l ↦ omega (arith, l)
]

pub bit_to : (n i : ℕ) → 0 < n → n < 2 ^ 64 → bit_at n i ≡ 1 → i ≤ highest_of n
bit_to n i some fits e = elim (cases_lt (highest_of n) i) [
  | inl l ↦ absurd (let z = bit_at_above n (highest_of n + 1) i (highest_above n some fits) (omega (arith, l)) in
      omega (arith, e, z))
  | inr l ↦ omega (arith, l)
]

-- these two are set
pub lowest_set : (n : ℕ) → 0 < n → n < 2 ^ 64 → bit_at n (lowest_of n) ≡ 1
lowest_set n some fits = (bit_at-trailing_zeros w64 n some fits).1

pub highest_set : (n : ℕ) → 0 < n → n < 2 ^ 64 → bit_at n (highest_of n) ≡ 1
highest_set n some fits = one (bit_at n (highest_of n)) (bit_at-lt n (highest_of n)) set
  where
    some_left : (b r : ℕ) → n % 2 ^ (highest_of n + 1) ≡ b * 2 ^ highest_of n + r → n % 2 ^ (highest_of n + 1) ≡ n
        → b ≡ 0
        → r < 2 ^ highest_of n → ⊥
    some_left b r e f z l =
        let t = highest_there n some fits in
        let m : b * 2 ^ highest_of n ≡ 0 = ap (λ (k : ℕ). k * 2 ^ highest_of n) z ∙ (omega arith) in
        omega (arith, e, f, m, l, t)

    same : n % 2 ^ (highest_of n + 1) ≡ n
    same = let z : n ≡ 0 * 2 ^ (highest_of n + 1) + n = omega arith in
        ap (λ (m : ℕ). m % 2 ^ (highest_of n + 1)) z ∙ mod_low 0 (highest_of n + 1) n (highest_above n some fits)

    set : ¬ (bit_at n (highest_of n) ≡ 0)
    set z = some_left (bit_at n (highest_of n)) (n % 2 ^ highest_of n) (one_more n (highest_of n)) same z
        (mod_below n (2 ^ highest_of n) (pow_pos (highest_of n)))

    one : (b : ℕ) → b < 2 → ¬ (b ≡ 0) → b ≡ 1
    one b l h = omega (arith, l, h)

-- ---- the two halves

-- what is left below an index, below a lower one
mod_twice : (n j k : ℕ) → j ≤ k → n % 2 ^ k % 2 ^ j ≡ n % 2 ^ j
mod_twice n j k l =
    let d : k ≡ k - j + j = omega (arith, l) in
    ap (λ (m : ℕ). n % 2 ^ m % 2 ^ j) d
    ∙ ap (λ (z : ℕ). z % 2 ^ j) (mod-pow-add n (k - j) j)
    ∙ mod_low (n / 2 ^ j % 2 ^ (k - j)) j (n % 2 ^ j) (mod_below n (2 ^ j) (pow_pos j))

module _ (slice : ℕ) (some : 0 < slice) (fits : slice < 2 ^ 64) (wide : lowest_of slice < highest_of slice) where
  -- the split is after the lowest index and not after the highest
  pub split_low : lowest_of slice + 1 ≤ split_of slice
  split_low = omega (arith, wide)

  pub split_high : split_of slice ≤ highest_of slice
  split_high = omega (arith, wide)

  -- the left half
  pub left_below : left_slice slice < 2 ^ split_of slice
  left_below = mod_below slice (2 ^ split_of slice) (pow_pos (split_of slice))

  pub left_fits : left_slice slice < 2 ^ 64
  left_fits = let s = shr_split slice (split_of slice) in omega (arith, s, fits)

  left_there : left_slice slice % 2 ^ (lowest_of slice + 1) ≡ 2 ^ lowest_of slice
  left_there = mod_twice slice (lowest_of slice + 1) (split_of slice) split_low ∙ up_to_lowest slice some fits

  left_none : left_slice slice % 2 ^ lowest_of slice ≡ 0
  left_none = mod_twice slice (lowest_of slice) (split_of slice) (omega (arith, split_low)) ∙ none_before slice some fits

  pub left_some : 0 < left_slice slice
  left_some = let p = pow_pos (lowest_of slice) in
      let s = shr_split (left_slice slice) (lowest_of slice + 1) in omega (arith, left_there, p, s)

  pub left_lowest : lowest_of (left_slice slice) ≡ lowest_of slice
  left_lowest = lowest_is (left_slice slice) (lowest_of slice) left_some left_fits left_there left_none

  pub left_highest : highest_of (left_slice slice) < split_of slice
  left_highest = top_before (left_slice slice) (highest_of (left_slice slice)) (split_of slice)
      (highest_there (left_slice slice) left_some left_fits) left_below

  -- the right half
  right_is : slice ≡ right_slice slice + left_slice slice
  right_is = sym (shr_split slice (split_of slice))

  pub right_fits : right_slice slice < 2 ^ 64
  right_fits = omega (arith, right_is, fits)

  right_there : 2 ^ highest_of slice ≤ right_slice slice
  right_there = elim (cases_lt (right_slice slice) (2 ^ highest_of slice)) [
    | inr l ↦ omega (arith, l)
    | inl l ↦ absurd (let q = lowered (slice / 2 ^ split_of slice) l in
        let h = highest_there slice some fits in
        let b = left_below in
        let p = power_le (split_of slice) (highest_of slice) split_high in
        short q h b p)
  ]
    where
      below_by : (a b p : ℕ) → a * p < b * p → a < b
      below_by a b p l = elim (cases_lt a b) [
        | inl m ↦ m
        | inr m ↦ absurd (let n = mul-le b p a p m (omega arith) in omega (arith, l, n))
      ]

      -- a multiple of the split's power below the power of the highest index has capacity for the left half
      lowered : (q : ℕ) → q * 2 ^ split_of slice < 2 ^ highest_of slice
          → q * 2 ^ split_of slice + 2 ^ split_of slice ≤ 2 ^ highest_of slice
      lowered q l =
          let d : highest_of slice - split_of slice + split_of slice ≡ highest_of slice = omega (arith, split_high) in
          let e : 2 ^ highest_of slice ≡ 2 ^ (highest_of slice - split_of slice) * 2 ^ split_of slice =
          sym (ap (λ (z : ℕ). 2 ^ z) d) ∙ pow-add 2 (highest_of slice - split_of slice) (split_of slice) in
          let k : q < 2 ^ (highest_of slice - split_of slice) =
          below_by q (2 ^ (highest_of slice - split_of slice)) (2 ^ split_of slice) (omega (arith, l, e)) in
          let r = row_fits q (2 ^ split_of slice) (2 ^ (highest_of slice - split_of slice)) (2 ^ split_of slice) k (omega
          arith) in
          omega (arith, r, e)

      short : right_slice slice + 2 ^ split_of slice ≤ 2 ^ highest_of slice → 2 ^ highest_of slice ≤ slice
          → left_slice slice < 2 ^ split_of slice → 2 ^ split_of slice ≤ 2 ^ highest_of slice → ⊥
      short q h b p = omega (arith, right_is, q, h, b)

  pub right_some : 0 < right_slice slice
  right_some = let p = pow_pos (highest_of slice) in omega (arith, right_there, p)

  pub right_highest : highest_of (right_slice slice) ≡ highest_of slice
  right_highest = highest_is (right_slice slice) (highest_of slice) right_some right_fits right_there
      (let a = highest_above slice some fits in omega (arith, a, right_is))

  pub right_none : right_slice slice % 2 ^ split_of slice ≡ 0
  right_none = grind (arith, common_steps, right_slice, split_of, mod_low, pow_pos)

  pub right_lowest : split_of slice ≤ lowest_of (right_slice slice)
  right_lowest = lowest_from (right_slice slice) (split_of slice) (lowest_of (right_slice slice)) right_none
      (up_to_lowest (right_slice slice) right_some right_fits)

  -- both are narrower
  pub left_narrow : width_of (left_slice slice) < width_of slice
  left_narrow = omega (arith, left_lowest, left_highest, split_high, wide)

  pub right_narrow : width_of (right_slice slice) < width_of slice
  right_narrow = let h = lowest_to_highest (right_slice slice) right_some right_fits in
      omega (arith, right_lowest, right_highest, split_low, wide, h)

  -- ---- bits

  -- an index of the left half is one of the slice, before the split
  pub left_bit : (i : ℕ) → bit_at (left_slice slice) i ≡ 1 → (i < split_of slice) × (bit_at slice i ≡ 1)
  left_bit i e = elim (cases_lt i (split_of slice)) [
    | inl l ↦ (l, sym (low i l) ∙ e)
    | inr l ↦ absurd (let z = bit_at_above (left_slice slice) (split_of slice) i left_below l in omega (arith, e, z))
  ]
    where
      low : (i : ℕ) → i < split_of slice → bit_at (left_slice slice) i ≡ bit_at slice i
      low i l = sym (bit_at_cat_low (slice / 2 ^ split_of slice) (split_of slice) (left_slice slice) i l)
          ∙ ap (λ (n : ℕ). bit_at n i) (shr_split slice (split_of slice))

  pub left_bit_of : (i : ℕ) → i < split_of slice → bit_at slice i ≡ 1 → bit_at (left_slice slice) i ≡ 1
  left_bit_of i l e = sym (bit_at_cat_low (slice / 2 ^ split_of slice) (split_of slice) (left_slice slice) i l)
      ∙ ap (λ (n : ℕ). bit_at n i) (shr_split slice (split_of slice)) ∙ e

  -- an index of the right half is one of the slice, from the split on
  pub right_bit : (i : ℕ) → bit_at (right_slice slice) i ≡ 1 → (split_of slice ≤ i) × (bit_at slice i ≡ 1)
  right_bit i e = grind (arith, common_steps, cases_lt, split_of, high, none)
    where
      same : right_slice slice ≡ right_slice slice + 0
      same = omega arith

      none : (i : ℕ) → i < split_of slice → bit_at (right_slice slice) i ≡ 0
      none i l = ap (λ (n : ℕ). bit_at n i) same
          ∙ bit_at_cat_low (slice / 2 ^ split_of slice) (split_of slice) 0 i l ∙ bit_at-zero i

      high : (i : ℕ) → split_of slice ≤ i → bit_at (right_slice slice) i ≡ bit_at slice i
      high i l = grind (arith, common_steps, bit_at, same, bit_at_cat_high, split_of, pow_pos, left_slice, left_below, shr_split)

  pub right_bit_of : (i : ℕ) → split_of slice ≤ i → bit_at slice i ≡ 1 → bit_at (right_slice slice) i ≡ 1
  right_bit_of i l e = ap (λ (n : ℕ). bit_at n i) same
      ∙ bit_at_cat_high (slice / 2 ^ split_of slice) (split_of slice) 0 i (pow_pos (split_of slice)) l
      ∙ sym (bit_at_cat_high (slice / 2 ^ split_of slice) (split_of slice) (left_slice slice) i left_below l)
      ∙ ap (λ (n : ℕ). bit_at n i) (shr_split slice (split_of slice)) ∙ e
    where
      same : right_slice slice ≡ right_slice slice + 0
      same = omega arith
