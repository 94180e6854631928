-- Numbers in four words of 64 bits.
use Rattle.std.specs.Prelude.{ℕ, ◌+◌, ◌*◌, ◌^◌, ◌<◌}
use Rattle.first_meeting.specs.declared.products.Words.{Words}

-- the base
abbrev pub word : ℕ
word = 2 ^ 64

-- the number of four words
abbrev pub number_of : Words → ℕ
number_of w = ((w.fourth * word + w.third) * word + w.second) * word + w.first

-- each but the highest is less than the base
pub record HasWords (w : Words) : Type 0 where
  pub third : w.third < word
  pub second : w.second < word
  pub first : w.first < word
