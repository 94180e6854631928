-- Numbers times powers of four, and their roots.
use Rattle.std.proofs.Common.{◌≡◌, ℕ, zero, suc, ◌+◌, ◌-◌, ◌*◌, ◌/◌, ◌%◌, ◌^◌, ◌<◌, ◌≤◌, refl, sym, ap, ◌∙◌, subst, arith}
use Rattle.std.proofs.Math.Nat.{lt-div-mul-add}
use Rattle.std.proofs.lemmas.Nat.{pow-add, pow_pos, shl_below, shl_whole}

-- multiplying by 4 raises the power by one
pub four_more : (n m k : ℕ) → m ≡ n * 4 ^ k → 4 * m ≡ n * 4 ^ (k + 1)
four_more n m k e = more n m (4 ^ k) (4 ^ (k + 1)) (pow-add 4 k 1) e
  where
    more : (n m p q : ℕ) → q ≡ p * 4 → m ≡ n * p → 4 * m ≡ n * q
    more n m p q f e = rw (f, e) (omega arith)

-- 95 steps are enough: a number above 0 times 4^95 is no less than 2^190
pub enough : (n m k : ℕ) → 0 < n → m ≡ n * 4 ^ k → k ≡ 95 → 2 ^ 190 ≤ m
enough n m k p e f = let g : m ≡ n * 4 ^ 95 = subst (λ (j : ℕ). m ≡ n * 4 ^ j) f e in omega (arith, g, p)

-- multiplying by a power of 4 adds the exponents
pub raised_more : (n m f k j : ℕ) → m ≡ n * 4 ^ k → f ≡ 4 ^ j → m * f ≡ n * 4 ^ (k + j)
raised_more n m f k j e g = more n m f (4 ^ k) (4 ^ j) (4 ^ (k + j)) (pow-add 4 k j) e g
  where
    more : (n m f p q r : ℕ) → r ≡ p * q → m ≡ n * p → f ≡ q → m * f ≡ n * r
    more n m f p q r e g h = rw (e, g, h) (omega arith)

-- ---- numbers times powers of two

-- a number whose quotient by a power of two is 0 is below it
below_power : (n j : ℕ) → n / 2 ^ j ≡ 0 → n < 2 ^ j
below_power n j e = less (2 ^ j) (n / 2 ^ j) e (lt-div-mul-add (pow_pos j))
  where
    less : (p q : ℕ) → q ≡ 0 → n < q * p + p → n < p
    less p q f l = let l2 = subst (λ (z : ℕ). n < z * p + p) f l in omega (arith, l2)

-- so a number with room for k bits below 2^84, moved up by these, stays below
pub moved_below : (n k : ℕ) → k < 84 → n / 2 ^ (84 - k) ≡ 0 → (n * 2 ^ k) % 2 ^ 128 < 2 ^ 84
moved_below n k l e =
    subst (λ (z : ℕ). z < 2 ^ 84) (sym (shl_whole n (84 - k) k 128 (below_power n (84 - k) e) (omega (arith, l))))
    (let room : (84 - k) + k ≡ 84 = omega (arith, l) in
    subst (λ (z : ℕ). n * 2 ^ k < 2 ^ z) room (shl_below n (84 - k) k (below_power n (84 - k) e)))

-- and the rest of a power of two is left
pub moved_up : (n j k : ℕ) → k ≤ j → k < 84 → n / 2 ^ (84 - k) ≡ 0 → (n * 2 ^ k) % 2 ^ 128 * 2 ^ (j - k) ≡ n * 2 ^ j
moved_up n j k h l e =
    ap (λ (z : ℕ). z * 2 ^ (j - k)) (shl_whole n (84 - k) k 128 (below_power n (84 - k) e) (omega (arith, l)))
    ∙ both n (2 ^ k) (2 ^ (j - k)) (2 ^ j) (ap (λ (z : ℕ). 2 ^ z) (omega (arith, h)) ∙ pow-add 2 k (j - k))
  where
    both : (n p q r : ℕ) → r ≡ p * q → n * p * q ≡ n * r
    both n p q r f = rw f (omega arith)

-- a power of four is one of two
four_two : (k : ℕ) → 4 ^ k ≡ 2 ^ (2 * k)
four_two zero = refl
four_two (suc k) = more (4 ^ k) (2 ^ (2 * k)) _ _ (four_two k) (power 4 (suc k) (k + 1) (omega arith) ∙ pow-add 4 k 1)
    (power 2 (2 * suc k) (2 * k + 2) (omega arith) ∙ pow-add 2 (2 * k) 2)
  where
    power : (b m n : ℕ) → m ≡ n → b ^ m ≡ b ^ n
    power b m n e = ap (λ (z : ℕ). b ^ z) e

    more : (p q r s : ℕ) → p ≡ q → r ≡ p * 4 → s ≡ q * 4 → r ≡ s
    more p q r s e f g = f ∙ ap (λ (z : ℕ). z * 4) e ∙ sym g

-- two factors moved up, and a power of two that takes the rest, are their product times a power of four
pub raised_square : (n f g a b c i j k s : ℕ) → a * 2 ^ i ≡ f * 2 ^ (2 * s) → b * 2 ^ j ≡ g * 2 ^ i → c * 2 ^ k ≡ 1 * 2 ^ j
    → k ≡ 0 → n ≡ a * b * c → n ≡ f * g * 4 ^ s
raised_square n f g a b c i j k s e h l z m =
    m ∙ all (2 ^ (2 * s)) (2 ^ i) (2 ^ j) (2 ^ k) e h l (ap (λ (t : ℕ). 2 ^ t) z) ∙ ap (λ (t : ℕ). f * g * t) (sym (four_two s))
  where
    last : (t u : ℕ) → c * u ≡ 1 * t → u ≡ 1 → c ≡ t
    last t u e f = let e2 = subst (λ (z : ℕ). c * z ≡ 1 * t) f e in omega (arith, e2)

    ordered : (p q t : ℕ) → a * q ≡ f * p → b * t ≡ g * q → a * b * t ≡ f * g * p
    ordered p q t e h = one a b t ∙ ap (λ (z : ℕ). a * z) h ∙ one2 a g q ∙ ap (λ (z : ℕ). z * g) e ∙ one3 f p g
      where
        one : (x y z : ℕ) → x * y * z ≡ x * (y * z)
        one x y z = omega arith

        one2 : (x y z : ℕ) → x * (y * z) ≡ x * z * y
        one2 x y z = omega arith

        one3 : (x y z : ℕ) → x * y * z ≡ x * z * y
        one3 x y z = omega arith

    all : (p q t u : ℕ) → a * q ≡ f * p → b * t ≡ g * q → c * u ≡ 1 * t → u ≡ 1 → a * b * c ≡ f * g * p
    all p q t u e h l z = ap (λ (v : ℕ). a * b * v) (last t u l z) ∙ ordered p q t e h
