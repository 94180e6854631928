-- Passes that leave out the points that are not outwards of a segment.
use Rattle.std.specs.Prelude.{◌≡◌, ◌⊎◌, ℕ, ◌<◌, ◌^◌, pos, ◌≤ℤ◌, List, [], ◌∷◌, ◌++◌, length}
use Rattle.std.specs.List.{Contains}
use Rattle.lattice.specs.Orientations.{orient_on}
use Rattle.lattice.specs.Plane.{Pair}
use Rattle.lattice.specs.declared.side.Side.{Side}
use Rattle.hull_geometry.specs.Monotone.{IsInwards, IsPassed}
use Rattle.hull_geometry.specs.Positions.{point_at}
use Rattle.hull_buckets.specs.Buckets.{IsAmid}
use Rattle.hull_buckets.specs.Masks.{at_places, AreApart}

-- the point at an index was appended to a chain, or it is not outwards of the segment from a to b and the chain is as
-- it was
abbrev pub IsPushedOutwards : Side → List Pair → ℕ → ℕ → Pair → Pair → ℕ → Type 0
IsPushedOutwards side S chain place a b new = IsPassed side (at_places chain S ++ point_at S place ∷ []) (at_places new
    S)
    ⊎ ((new ≡ chain) × (orient_on side a (point_at S place) b ≤ℤ pos 0))

-- the result of a pass over the chain and some of the other points: those that were left out are not outwards of the
-- segment from a to b
pub record IsPassedOutwards (side : Side) (S : List Pair) (chain rest : ℕ) (a b : Pair) (new : ℕ) : Type 0 where
  pub taken : List Pair
  pub passed : IsPassed side (at_places chain S ++ taken) (at_places new S)
  pub others : (t : Pair) → Contains (at_places rest S) t → Contains taken t ⊎ (orient_on side a t b ≤ℤ pos 0)

-- the result of a pass over the vertices of one mask and some of the points between them and those of another mask: the
-- points that were left out are inwards of a segment between two vertices
pub record IsFront (side : Side) (S : List Pair) (low high front : ℕ) : Type 0 where
  pub within : front < 2 ^ length S
  pub apart : AreApart front high
  pub taken : List Pair
  pub passed : IsPassed side (at_places low S ++ taken) (at_places front S)
  pub others : (t : Pair) → Contains S t → IsAmid (at_places low S) (at_places high S) t
      → Contains taken t ⊎ ((a b : Pair) × Contains (at_places low S) a × Contains (at_places high S) b
      × IsInwards side a b t)
