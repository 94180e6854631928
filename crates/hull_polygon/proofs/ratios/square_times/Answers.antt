-- each digit of the square times the other number
use Rattle.std.proofs.Common.{◌≡◌, ℕ, ◌+◌, ◌*◌, ◌/◌, ◌%◌, ap, ◌∙◌, arith}
use Rattle.hull_polygon.specs.Wide.{base}
use Rattle.hull_polygon.proofs.ratios.square_times.Goals as goal

-- a number is a multiple of the base and a rest
parted : (n : ℕ) → n ≡ n / 19342813113834066795298816 * base + n % 19342813113834066795298816
parted n = omega arith

-- a product, by a digit and a rest
split : (n c x y : ℕ) → n ≡ x * base + y → n * c ≡ (x * c) * base + y * c
split n c x y e = ap (λ (z : ℕ). z * c) e ∙ omega arith

-- two digits carried
carried : (n p q r g h : ℕ) → n ≡ p * base + q → r ≡ p → q ≡ g * base + h
    → ((r + g) / 19342813113834066795298816 * base + (r + g) % 19342813113834066795298816) * base + h ≡ n
carried n p q r g h e f k = omega arith

pub returns-clause-value : goal.returns-clause-value
returns-clause-value c =
    let n = c.args.root * c.args.root in
    let x = n / 19342813113834066795298816 in
    let y = n % 19342813113834066795298816 in
    carried (n * c.args.by) (x * c.args.by) (y * c.args.by) c.half_product.result c.two_digits-above.result.0
    c.two_digits-above.result.1 (split n c.args.by x y (parted n)) c.half_product.ensures.value c.two_digits-above.ensures.value
