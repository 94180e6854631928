-- If a union of two numbers is below 2^41, each of them is.
use Rattle.std.proofs.Common.{ℕ, ◌^◌, ◌<◌, bit_or, arith}
use Rattle.std.proofs.lemmas.Nat.{le_or_l, le_or_r}

-- the first of them is
pub low_l : (a b : ℕ) → bit_or a b < 2 ^ 41 → a < 2 ^ 41
low_l a b h = let l = le_or_l a b in omega (arith, l, h)

-- the second of them is
pub low_r : (a b : ℕ) → bit_or a b < 2 ^ 41 → b < 2 ^ 41
low_r a b h = let l = le_or_r a b in omega (arith, l, h)
