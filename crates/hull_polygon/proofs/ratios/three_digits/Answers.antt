-- each digit of the first product times the third number
use Rattle.std.proofs.Common.{◌≡◌, ℕ, ◌+◌, ◌*◌, ◌/◌, ◌%◌, ap, ◌∙◌, arith}
use Rattle.hull_polygon.specs.Wide.{base}
use Rattle.hull_polygon.proofs.ratios.three_digits.Goals as goal

-- a product, by a digit and a rest
split : (n c x y : ℕ) → n ≡ x * base + y → n * c ≡ (x * c) * base + y * c
split n c x y e = ap (λ (z : ℕ). z * c) e ∙ omega arith

-- two digits carried
carried : (n p q g h k l : ℕ) → n ≡ p * base + q → p ≡ g * base + h → q ≡ k * base + l
    → ((g + (h + k) / 19342813113834066795298816) * base + (h + k) % 19342813113834066795298816) * base + l ≡ n
carried n p q g h k l e f m = omega arith

pub returns-clause-value : goal.returns-clause-value
returns-clause-value c =
    let x = c.two_digits-upper.result.0 in
    let y = c.two_digits-upper.result.1 in
    carried (c.args.a * c.args.b * c.args.c) (x * c.args.c) (y * c.args.c) c.two_digits-high.result.0
    c.two_digits-high.result.1 c.two_digits-below.result.0 c.two_digits-below.result.1
    (split (c.args.a * c.args.b) c.args.c x y c.two_digits-upper.ensures.value) c.two_digits-high.ensures.value
    c.two_digits-below.ensures.value
