-- The values of a bucket: points in order, the multiplicity of each, and which of them are vertices of the two chains of all of them.
use Rattle.std.specs.Prelude.{◌≡◌, ◌⊎◌, ℕ, ◌<◌, ◌≤◌, ◌^◌, List, length, take}
use Rattle.std.specs.List.{All, Contains}
use Rattle.lattice.specs.Covers.{IsPointSet}
use Rattle.lattice.specs.Plane.{Pair, IsBefore}
use Rattle.lattice.specs.declared.side.Side.{Side}
use Rattle.lattice.specs.declared.side.Side.TheVariants.{Lower, Upper}
use Rattle.hull_geometry.specs.Monotone.{IsChainOf, IsInner, IsInwards, IsConvex}
use Rattle.hull_set.specs.declared.TheConstants.{MULTIPLICITY_LIMIT}
use Rattle.hull_buckets.specs.Masks.{at_places, without_place, AreApart}
use Rattle.hull_buckets.specs.declared.TheConstants.{BUCKET_SIZE}

-- a bucket as contracts see it: its points, the multiplicity of each, and the indices of the vertices of its two chains
pub record BucketValue : Type 0 where
  pub points : List Pair
  pub multiplicities : List ℕ
  pub lower : ℕ
  pub upper : ℕ

-- the first elements of two arrays, as many as the first argument, and two masks
abbrev pub seen : ℕ → List Pair → List ℕ → ℕ → ℕ → BucketValue
seen len points multiplicity lower upper =
    record { points = take len points; multiplicities = take len multiplicity; lower = lower; upper = upper }

-- the indices of the vertices of the chain on a side
abbrev pub mask_on : Side → BucketValue → ℕ
mask_on Lower b = b.lower
mask_on Upper b = b.upper

-- a multiplicity that a point of a bucket may have
abbrev pub IsMultiplicity : ℕ → Type 0
IsMultiplicity multiplicity = (1 ≤ multiplicity) × (multiplicity ≤ MULTIPLICITY_LIMIT)

-- a mask has the indices of the vertices of the chain of these points on a side, and no other
pub record IsMaskOf (side : Side) (points : List Pair) (mask : ℕ) : Type 0 where
  pub within : mask < 2 ^ length points
  pub chain : IsChainOf side points (at_places mask points)

-- a bucket: at least one point and no more than its capacity, in order, each with a multiplicity that a point may have; the masks are those of the
-- two chains of all of them
pub record IsBucket (b : BucketValue) : Type 0 where
  pub some : 0 < length b.points
  pub few : length b.points ≤ BUCKET_SIZE
  pub ordered : IsPointSet b.points
  pub counted : length b.multiplicities ≡ length b.points
  pub held : All IsMultiplicity b.multiplicities
  pub vertices : (side : Side) → IsMaskOf side b.points (mask_on side b)

-- a mask had the vertices of the chain of these points and of one more, which was at an index
pub record WasMaskOf (side : Side) (points : List Pair) (place mask : ℕ) : Type 0 where
  pub old : List Pair
  pub few : length old ≤ BUCKET_SIZE
  pub ordered : IsPointSet old
  pub within : place < length old
  pub left : points ≡ without_place place old
  pub vertices : IsMaskOf side old mask

-- t is after all of the one list and before all of the other
abbrev pub IsAmid : List Pair → List Pair → Pair → Type 0
IsAmid left right t = All (λ u. IsBefore u t) left × All (IsBefore t) right

-- the points at the indices of two masks, all of the one before all of the other, are convex; each of the points is inner to those of one, or is
-- between both
pub record AreEnds (side : Side) (points : List Pair) (low high : ℕ) : Type 0 where
  pub apart : AreApart low high
  pub low_within : low < 2 ^ length points
  pub high_within : high < 2 ^ length points
  pub low_convex : IsConvex side (at_places low points)
  pub high_convex : IsConvex side (at_places high points)
  pub others : (t : Pair) → Contains points t → IsInner side (at_places low points) t
      ⊎ (IsInner side (at_places high points) t ⊎ IsAmid (at_places low points) (at_places high points) t)

-- p is inwards of a segment between two of the points: it is no vertex on this side
abbrev pub IsCovered : Side → Pair → List Pair → Type 0
IsCovered side p S = (a : Pair) × (b : Pair) × Contains S a × Contains S b × IsInwards side a b p
