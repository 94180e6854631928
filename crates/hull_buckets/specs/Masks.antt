-- Indices of a list as the ones of a word: its lowest bit is the first index.
use Rattle.std.specs.Prelude.{◌≡◌, ◌⊎◌, ℕ, zero, suc, ◌+◌, ◌-◌, ◌<◌, ◌≤◌, ◌/◌, ◌%◌, ◌^◌, List, [], ◌∷◌, ◌++◌, take}
use Rattle.std.specs.Prelude.{drop}
use Rattle.std.specs.Int.{w64, trailing_zeros}
use lib.Count.{count_leading_zeros}
use Rattle.lattice.specs.Plane.{Pair}

-- p in front of the list, or not if the number is 0
abbrev pub kept_before : ℕ → Pair → List Pair → List Pair
kept_before zero p rest = rest
kept_before (suc n) p rest = p ∷ rest

-- the points of a list at the indices of a mask, in their order
abbrev pub at_places : ℕ → List Pair → List Pair
at_places mask [] = []
at_places mask (p ∷ rest) = kept_before (mask % 2) p (at_places (mask / 2) rest)

-- the lowest and the highest index of a mask
abbrev pub lowest_of : ℕ → ℕ
lowest_of mask = trailing_zeros w64 mask

abbrev pub highest_of : ℕ → ℕ
highest_of mask = 63 - count_leading_zeros 64 mask

-- all indices of the one mask are before all of the other
abbrev pub AreApart : ℕ → ℕ → Type 0
AreApart low high = (k : ℕ) × (low < 2 ^ k) × (high % 2 ^ k ≡ 0)

-- a list without the point at an index
abbrev pub without_place : ℕ → List Pair → List Pair
without_place place S = take place S ++ drop (place + 1) S

-- the mask has exactly those of the first `count` indices that are after all of `low` and before all of `high`
pub record IsGap (low high count mask : ℕ) : Type 0 where
  pub start : ℕ
  pub end : ℕ
  pub is : mask ≡ 2 ^ end - 2 ^ start
  pub low_before : low < 2 ^ start
  pub next : (start ≡ 0) ⊎ (2 ^ (start - 1) ≤ low)
  pub high_after : high % 2 ^ end ≡ 0
  pub last : (end ≡ count) ⊎ (high % 2 ^ (end + 1) ≡ 2 ^ end)
  pub order : start ≤ end
  pub within : end ≤ count
