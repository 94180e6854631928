-- The square of the distance of two hulls as a fraction, and the comparison of two such fractions.
use Rattle.std.specs.Prelude.{◌≡◌, ℕ, ◌+◌, ◌*◌, ◌^◌, ◌<◌, ◌≤◌, pos, ◌*ℤ◌, ◌<ℤ◌}
use Rattle.std.specs.declared.cmp.Ordering.{Ordering}
use Rattle.std.specs.declared.cmp.Ordering.TheVariants.{Less, Equal, Greater}
use Rattle.lattice.specs.Plane.{widest_side}
use Rattle.hull_polygon.specs.Closest.{dividend, divisor}
use Rattle.hull_polygon.specs.declared.distance.Distance.{Distance}
use Rattle.hull_polygon.specs.declared.factors.Factors.{Factors}
use Rattle.hull_polygon.specs.declared.squares.SquaredDistance.{SquaredDistance}
use Rattle.hull_polygon.specs.declared.squares.Words.{Words}

-- the base of words
abbrev pub word : ℕ
word = 2 ^ 64

-- the numerator of a fraction in words
abbrev pub numerator_of : SquaredDistance → ℕ
numerator_of f = (f.high * word + f.middle) * word + f.low

-- the denominator of a fraction in words
abbrev pub denominator_of : SquaredDistance → ℕ
denominator_of f = f.divisor_high * word + f.divisor_low

-- the fraction is the square of the distance
abbrev pub IsSquareOf : Distance → SquaredDistance → Type 0
IsSquareOf found f = (pos (numerator_of f) ≡ dividend found) × (pos (denominator_of f) ≡ divisor found)

-- the order of two numbers
abbrev pub ReturnsOrder : ℕ → ℕ → Ordering → Type 0
ReturnsOrder m n Less = m < n
ReturnsOrder m n Equal = m ≡ n
ReturnsOrder m n Greater = n < m

-- the order of two distances, by their squares
abbrev pub ReturnsNearer : Distance → Distance → Ordering → Type 0
ReturnsNearer x y Less = (dividend x *ℤ divisor y) <ℤ (dividend y *ℤ divisor x)
ReturnsNearer x y Equal = dividend x *ℤ divisor y ≡ dividend y *ℤ divisor x
ReturnsNearer x y Greater = (dividend y *ℤ divisor x) <ℤ (dividend x *ℤ divisor y)

-- ---- the computation

-- the square of the distance is the product of the first two, divided by the third
abbrev pub AreFactorsOf : Distance → Factors → Type 0
AreFactorsOf found f = (pos (f.first * f.second) ≡ dividend found) × (pos f.divisor ≡ divisor found)

-- each is no larger than a side, and the square no larger than that of the longest distance
pub record AreSmall (f : Factors) : Type 0 where
  pub first : f.first ≤ widest_side
  pub second : f.second ≤ widest_side
  pub divisor : f.divisor ≤ widest_side
  pub quotient : f.first * f.second ≤ f.divisor * widest_side

-- the number of five words
abbrev pub number_of_words : Words → ℕ
number_of_words w = (((w.fifth * word + w.fourth) * word + w.third) * word + w.second) * word + w.first

-- each but the highest is less than the base
pub record HasWords (w : Words) : Type 0 where
  pub fourth : w.fourth < word
  pub third : w.third < word
  pub second : w.second < word
  pub first : w.first < word
