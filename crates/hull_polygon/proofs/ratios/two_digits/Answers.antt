-- the products of both halves of the first digit
use Rattle.std.proofs.Common.{◌≡◌, ℕ, ◌+◌, ◌*◌, ◌/◌, ◌%◌, ap, ◌∙◌, arith}
use Rattle.hull_polygon.specs.Wide.{base}
use Rattle.hull_polygon.proofs.ratios.two_digits.Goals as goal

-- a product, by a number and a rest
split : (a b x y : ℕ) → a ≡ x * 4398046511104 + y → a * b ≡ (x * b) * 4398046511104 + y * b
split a b x y e = ap (λ (z : ℕ). z * b) e ∙ omega arith

-- a number is a multiple of the half base and a rest
halves : (a : ℕ) → a ≡ a / 4398046511104 * 4398046511104 + a % 4398046511104
halves a = omega arith

-- two halves are a digit
carried : (n p q : ℕ) → n ≡ p * 4398046511104 + q
    → n ≡ (p / 4398046511104 + (p % 4398046511104 * 4398046511104 + q) / 19342813113834066795298816) * base
    + (p % 4398046511104 * 4398046511104 + q) % 19342813113834066795298816
carried n p q e = omega arith

-- the products under other names
named : (n p q u v : ℕ) → n ≡ p * 4398046511104 + q → u ≡ p → v ≡ q → n ≡ u * 4398046511104 + v
named n p q u v e f g = omega arith

pub returns-clause-value : goal.returns-clause-value
returns-clause-value c =
    let a = c.args.a in
    let b = c.args.b in
    carried (a * b) c.half_product-upper.result c.half_product-lower.result
    (named (a * b) (a / 4398046511104 * b) (a % 4398046511104 * b) _ _
    (split a b (a / 4398046511104) (a % 4398046511104) (halves a)) c.half_product-upper.ensures.value
    c.half_product-lower.ensures.value)
