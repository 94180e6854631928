-- The distance of two hulls between the two doubles next to it.
use Rattle.std.specs.Prelude.{◌≡◌, ◌⊎◌, ℕ, ◌+◌, ◌*◌, ◌^◌, ◌<◌, ◌≤◌, pos}
use Rattle.hull_polygon.specs.Closest.{dividend, divisor}
use Rattle.hull_polygon.specs.declared.distance.Distance.{Distance}
use Rattle.hull_polygon.specs.declared.roundings.Rounded.{Rounded}

-- the least number of 53 bits, which is the precision of a double
abbrev pub full : ℕ
full = 2 ^ 52

-- the root of n / d, times 2^shift, is the lower number, which is then also the upper one; or it lies between the two,
-- which are consecutive. The lower one is 0, or has exactly 53 bits: so no other double, and no other shift, is
-- possible
pub record IsRoundedRoot (n d : ℕ) (r : Rounded) : Type 0 where
  pub between :
      ((r.upper ≡ r.lower) × (r.lower * r.lower * d ≡ n * 4 ^ r.shift))
      ⊎ ((r.upper ≡ r.lower + 1) × (r.lower * r.lower * d < n * 4 ^ r.shift) × (n * 4 ^ r.shift < r.upper * r.upper * d))
  pub whole : ((r.lower ≡ 0) × (r.upper ≡ 0) × (r.shift ≡ 0)) ⊎ ((full ≤ r.lower) × (r.lower < 2 * full))

-- the square of the distance is n / d, and its root is rounded in this way
abbrev pub IsRounded : Distance → Rounded → Type 0
IsRounded found r = (n : ℕ) × (d : ℕ) × (pos n ≡ dividend found) × (pos d ≡ divisor found) × IsRoundedRoot n d r
