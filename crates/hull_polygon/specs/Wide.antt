-- Numbers of three digits to the base 2^84.
use Rattle.std.specs.Prelude.{ℕ, ◌+◌, ◌*◌, ◌^◌, ◌<◌}
use Rattle.hull_polygon.specs.declared.ratios.Wide.{Wide}

-- the base
abbrev pub base : ℕ
base = 2 ^ 84

-- the number of three digits
abbrev pub number_of : Wide → ℕ
number_of w = (w.high * base + w.middle) * base + w.low

-- each is less than the base
pub record HasDigits (w : Wide) : Type 0 where
  pub high : w.high < base
  pub middle : w.middle < base
  pub low : w.low < base
