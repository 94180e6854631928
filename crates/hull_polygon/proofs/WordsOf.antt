-- Numbers in words of 64 bits, their products and sums.
use Rattle.std.proofs.Common.{◌≡◌, ℕ, ◌+◌, ◌*◌, arith}
use Rattle.hull_polygon.specs.Squares.{word}

-- the product of three words and one word
pub times_one : (h m l b carried first above second fourth third : ℕ) → carried * word + first ≡ l * b + 0
    → above * word + second ≡ m * b + carried → fourth * word + third ≡ h * b + above
    → ((fourth * word + third) * word + second) * word + first ≡ ((h * word + m) * word + l) * b
times_one h m l b carried first above second fourth third e f g = omega (arith, e, f, g)

-- the product of a number and two words
pub times_two : (n high low above below : ℕ) → above ≡ n * high → below ≡ n * low
    → above * word + below ≡ n * (high * word + low)
times_two n high low above below e f = omega (arith, e, f)
