-- Words as sums of powers of two.
use Rattle.std.proofs.Common.{◌≡◌, ℕ, zero, suc, ◌+◌, ◌-◌, ◌*◌, ◌/◌, ◌%◌, ◌^◌, ◌<◌, ◌≤◌, sym, ap, ◌∙◌, arith, inl, inr}
use Rattle.std.specs.Int.{bit_at}
use Rattle.std.proofs.lemmas.Bool.{cases_lt, cases_order}
use Rattle.std.proofs.lemmas.Nat.{pow_pos, pow-add, pow_below, mod-pow-add, div-add-mod', mod_low}
use Rattle.std.proofs.lemmas.Nat.{div_below, row_fits}
use Rattle.hull_buckets.specs.Masks.{AreApart}

-- the next power
pub twice : (k : ℕ) → 2 ^ suc k ≡ 2 ^ k * 2
twice k = let a : suc k ≡ k + 1 = omega arith in let e = pow-add 2 k 1 in ap (λ (n : ℕ). 2 ^ n) a ∙ e

-- the number below the next power is its bit there and what is below
pub one_more : (n k : ℕ) → n % 2 ^ (k + 1) ≡ bit_at n k * 2 ^ k + n % 2 ^ k
one_more n k = let a : k + 1 ≡ 1 + k = omega arith in ap (λ (m : ℕ). n % 2 ^ m) a ∙ mod-pow-add n 1 k

-- with no bit below an index there is nothing below it
pub none_below : (n k : ℕ) → ((i : ℕ) → i < k → bit_at n i ≡ 0) → n % 2 ^ k ≡ 0
none_below n zero h = omega arith
none_below n (suc k) h =
    let a : suc k ≡ k + 1 = omega arith in
    let e = one_more n k in
    let b = h k (omega arith) in
    let m = none_below n k (λ i l. h i (omega (arith, l))) in
    ap (λ (j : ℕ). n % 2 ^ j) a ∙ e ∙ ap (λ (z : ℕ). z * 2 ^ k + n % 2 ^ k) b ∙ (omega (arith, m))

-- the highest index of a number below a power is before that power's
pub top_before : (mask h k : ℕ) → 2 ^ h ≤ mask → mask < 2 ^ k → h < k
top_before mask h k there l = elim (cases_order h k) [
  | inl e ↦ absurd (let s = ap (λ (n : ℕ). 2 ^ n) e in omega (arith, there, l, s))
  | inr (inl b) ↦ b
  | inr (inr b) ↦ absurd (let s = pow_below k h b in omega (arith, there, l, s))
]

-- without it the number is below its power
pub below_top : (mask h : ℕ) → mask < 2 ^ (h + 1) → mask - 2 ^ h < 2 ^ h
below_top mask h l =
    let a : suc h ≡ h + 1 = omega arith in
    let e : 2 ^ (h + 1) ≡ 2 ^ h * 2 = sym (ap (λ (n : ℕ). 2 ^ n) a) ∙ twice h in
    let some = pow_pos h in
    omega (arith, l, e, some)

-- what a power divides, a lower one divides
pub divided : (n j k : ℕ) → j ≤ k → n % 2 ^ k ≡ 0 → n % 2 ^ j ≡ 0
divided n j k l e =
    let d : k - j + j ≡ k = omega (arith, l) in
    let p : 2 ^ k ≡ 2 ^ (k - j) * 2 ^ j = sym (ap (λ (z : ℕ). 2 ^ z) d) ∙ pow-add 2 (k - j) j in
    let s = div-add-mod' n (2 ^ k) in
    let whole : n ≡ n / 2 ^ k * 2 ^ k = omega (arith, s, e) in
    let parts : n ≡ n / 2 ^ k * 2 ^ (k - j) * 2 ^ j + 0 =
    whole ∙ ap (λ (z : ℕ). n / 2 ^ k * z) p ∙ assoc (n / 2 ^ k) (2 ^ (k - j)) (2 ^ j) in
    ap (λ (z : ℕ). z % 2 ^ j) parts ∙ mod_low (n / 2 ^ k * 2 ^ (k - j)) j 0 (pow_pos j)
  where
    assoc : (a b c : ℕ) → a * (b * c) ≡ a * b * c + 0
    assoc a b c = grind arith

-- a mask that has no index before k has its lowest index at k or after it
pub lowest_from : (n k place : ℕ) → n % 2 ^ k ≡ 0 → n % 2 ^ (place + 1) ≡ 2 ^ place → k ≤ place
lowest_from n k place e f = elim (cases_lt place k) [
  | inl l ↦ absurd (let z = divided n (place + 1) k (omega (arith, l)) e in let s = pow_pos place in omega (
    arith,
    f,
    z,
    s,
  ))
  | inr l ↦ omega (arith, l)
]

-- a power is no more than a higher one
pub power_le : (j k : ℕ) → j ≤ k → 2 ^ j ≤ 2 ^ k
power_le j k l = elim (cases_order j k) [
  | inl e ↦ let s = ap (λ (n : ℕ). 2 ^ n) e in omega (arith, s)
  | inr (inl b) ↦ let s = pow_below j k b in omega (arith, s)
  | inr (inr b) ↦ absurd (omega (arith, l, b))
]

-- without its lowest index a mask has none up to it
pub without_lowest : (n place : ℕ) → n % 2 ^ (place + 1) ≡ 2 ^ place
    → (high : ℕ) × (n - 2 ^ place ≡ high * 2 ^ (place + 1)) × (n ≡ high * 2 ^ (place + 1) + 2 ^ place)
without_lowest n place f =
    let s = div-add-mod' n (2 ^ (place + 1)) in
    (n / 2 ^ (place + 1), omega (arith, s, f), omega (arith, s, f))

-- two masks, all indices of the one before all of the other, are below a power together if each is
pub sum_within : (low high n : ℕ) → AreApart low high → low < 2 ^ n → high < 2 ^ n → low + high < 2 ^ n
sum_within low high n (k, l, e) below_n high_below_n = elim (cases_lt n k) [
  | inl b ↦ none b
  | inr b ↦ some (omega (arith, b))
]
  where
    none : n < k → low + high < 2 ^ n
    none b =
        let p = pow_below n k b in
        let m = mod_low 0 k high (omega (arith, high_below_n, p)) in
        let z : 0 * 2 ^ k + high ≡ high = omega arith in
        let zero_high : high ≡ 0 = sym m ∙ ap (λ (n : ℕ). n % 2 ^ k) z ∙ e in
        omega (arith, zero_high, below_n)

    some : k ≤ n → low + high < 2 ^ n
    some b =
        let d : n - k + k ≡ n = omega (arith, b) in
        let p : 2 ^ n ≡ 2 ^ (n - k) * 2 ^ k = sym (ap (λ (z : ℕ). 2 ^ z) d) ∙ pow-add 2 (n - k) k in
        let s = div-add-mod' high (2 ^ k) in
        let q : high / 2 ^ k < 2 ^ (n - k) =
        div_below high (2 ^ k) (2 ^ (n - k)) (pow_pos k) (omega (arith, high_below_n, p)) in
        let row = row_fits (high / 2 ^ k) (2 ^ k) (2 ^ (n - k)) (2 ^ k) q (omega arith) in
        omega (arith, l, e, s, row, p)

-- the next power
pub next_power : (k : ℕ) → 2 ^ (k + 1) ≡ 2 ^ k * 2
next_power k = let a : k + 1 ≡ suc k = omega arith in ap (λ (z : ℕ). 2 ^ z) a ∙ twice k

-- a number without what is below an index
pub high_part : (n k : ℕ) → n - n % 2 ^ k ≡ n / 2 ^ k * 2 ^ k
high_part n k = let s = div-add-mod' n (2 ^ k) in omega (arith, s)

-- twice that is this many of the next power
pub high_twice : (n k : ℕ) → (n - n % 2 ^ k) * 2 ≡ n / 2 ^ k * 2 ^ (k + 1)
high_twice n k =
    ap (λ (z : ℕ). z * 2) (high_part n k) ∙ assoc (n / 2 ^ k) (2 ^ k)
    ∙ ap (λ (z : ℕ). n / 2 ^ k * z) (sym (next_power k))
  where
    assoc : (a b : ℕ) → a * b * 2 ≡ a * (b * 2)
    assoc a b = grind arith

-- a number below a power is what is left of it there
pub small : (n k : ℕ) → n < 2 ^ k → n % 2 ^ k ≡ n
small n k l = let z : n ≡ 0 * 2 ^ k + n = omega arith in ap (λ (m : ℕ). m % 2 ^ k) z ∙ mod_low 0 k n l
