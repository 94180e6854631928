-- Pairs as a sweep finds them, in any order.
use Rattle.std.specs.Prelude.{◌≡◌, ◌≢◌, ◌⊎◌, ◌++◌, ℕ, ◌+◌, ◌*◌, ◌^◌, ◌<◌, List, [], ◌∷◌, length, drop, take, min, max, slice_index}
use Rattle.std.specs.List.{All, AllPairs, Contains}
use denote.Ref.{Bor}
use Rattle.lattice.specs.Plane.{Pair}
use Rattle.hull_polygon.specs.declared.ranges.Length.{Length}
use Rattle.polygon_pairs.specs.Pairs.{IsPairWithin}
use Rattle.polygon_pairs.specs.declared.pair.HullPair.{HullPair}

-- the pair of two indices, the lesser one first
abbrev pub pair_of : ℕ → ℕ → HullPair
pair_of i j = record { first = min i j; second = max i j }

-- a number that is less for an earlier pair
abbrev pub key_of : HullPair → ℕ
key_of p = p.first * 2 ^ 64 + p.second

-- as many of the pairs as an array takes are at its front, and its rest is as before
abbrev pub AreAtFront : List HullPair → List HullPair → List HullPair → Type 0
AreAtFront before found now = now ≡ take (length before) found ++ drop (length found) before

-- these pairs are found in addition to those that were found before
pub record Adds (more : List HullPair) (before : List HullPair) (count : ℕ) (after : List HullPair) (total : ℕ) : Type 0 where
  pub counted : total ≡ count + length more
  pub written : (first found : List HullPair) → count ≡ length found → AreAtFront first found before
      → AreAtFront first (found ++ more) after

-- the pair, if the distance of its polygons is at most the length; else none
abbrev pub IsPairIfWithin : Length → List (Bor (List Pair)) → HullPair → List HullPair → Type 0
IsPairIfWithin r polygons p more =
    (IsPairWithin r polygons p × (more ≡ p ∷ [])) ⊎ (¬ IsPairWithin r polygons p × (more ≡ []))

-- the pair is that of the indices at two places, of which the sweep has come to
abbrev pub IsVisited : (ℕ → ℕ → Type 0) → List ℕ → HullPair → Type 0
IsVisited visited order p =
    (a : ℕ) × (b : ℕ) × (a < b) × (b < length order) × visited a b
    × (p ≡ pair_of (slice_index order a) (slice_index order b))

-- exactly the pairs of indices at places that the sweep has come to whose distance is at most the length, each once
pub record ArePairsOf (visited : ℕ → ℕ → Type 0) (r : Length) (polygons : List (Bor (List Pair))) (order : List ℕ)
    (pairs : List HullPair) : Type 0 where
  pub within : All (IsPairWithin r polygons) pairs
  pub among : All (IsVisited visited order) pairs
  pub complete : (a b : ℕ) → a < b → b < length order → visited a b
      → IsPairWithin r polygons (pair_of (slice_index order a) (slice_index order b))
      → Contains pairs (pair_of (slice_index order a) (slice_index order b))
  pub distinct : AllPairs (λ p q. p ≢ q) pairs
