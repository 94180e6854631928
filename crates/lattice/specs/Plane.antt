-- The plane of whole numbers of any size: its points, their order, and the formulas by which they are compared.
use Rattle.std.specs.Prelude.{◌≡◌, ◌⊎◌, ℕ, ◌*◌, ◌^◌, ℤ, pos, neg_ℤ, ◌+ℤ◌, ◌-ℤ◌, ◌*ℤ◌, ◌<ℤ◌, ◌≤ℤ◌}
use Rattle.lattice.specs.declared.TheConstants.{COORDINATE_LIMIT, NEAR_LIMIT}

-- a pair of whole numbers: a point, or a direction
pub record Pair : Type 0 where
  pub x : ℤ
  pub y : ℤ

-- positive if c lies left of the directed line from a to b, zero if it lies on that line, negative if it lies right of
-- it
unfoldable pub orient : Pair → Pair → Pair → ℤ
orient a b c = (b.x -ℤ a.x) *ℤ (c.y -ℤ a.y) -ℤ (b.y -ℤ a.y) *ℤ (c.x -ℤ a.x)

-- how far p lies in the direction d
unfoldable pub product : Pair → Pair → ℤ
product d p = d.x *ℤ p.x +ℤ d.y *ℤ p.y

-- the square of the distance of two points
unfoldable pub distance_squared : Pair → Pair → ℤ
distance_squared a b = (b.x -ℤ a.x) *ℤ (b.x -ℤ a.x) +ℤ (b.y -ℤ a.y) *ℤ (b.y -ℤ a.y)

-- p is before q: by x, and by y if x is the same
abbrev pub IsBefore : Pair → Pair → Type 0
IsBefore p q = (p.x <ℤ q.x) ⊎ ((p.x ≡ q.x) × (p.y <ℤ q.y))

-- both coordinates negated: the point after a rotation by 180 degrees about the origin
abbrev pub turned_point : Pair → Pair
turned_point p = record { x = neg_ℤ p.x; y = neg_ℤ p.y }

-- z is at most k in size
abbrev pub IsWithin : ℕ → ℤ → Type 0
IsWithin k z = (neg_ℤ (pos k) ≤ℤ z) × (z ≤ℤ pos k)

-- a coordinate of a point, or a component of a direction, as the program accepts them
abbrev pub IsCoordinate : ℤ → Type 0
IsCoordinate z = (neg_ℤ COORDINATE_LIMIT ≤ℤ z) × (z ≤ℤ COORDINATE_LIMIT)

-- both numbers are coordinates
abbrev pub IsInRange : Pair → Type 0
IsInRange p = IsCoordinate p.x × IsCoordinate p.y

-- both numbers are zero: no direction
abbrev pub IsZero : Pair → Type 0
IsZero d = (d.x ≡ pos 0) × (d.y ≡ pos 0)

-- the size up to which coordinates are safe in 128 bits, whatever lower limit `COORDINATE_LIMIT` sets
abbrev pub widest : ℕ
widest = 2 ^ 40

-- the size of `orient`, of `product` and of a squared distance, for coordinates that are safe in 128 bits
abbrev pub widest_side : ℕ
widest_side = 8 * (widest * widest)

-- both coordinates are so small that a side of such points fits in 64 bits
abbrev pub IsNear : Pair → Type 0
IsNear p = (neg_ℤ NEAR_LIMIT ≤ℤ p.x) × (p.x ≤ℤ NEAR_LIMIT) × (neg_ℤ NEAR_LIMIT ≤ℤ p.y) × (p.y ≤ℤ NEAR_LIMIT)

-- the size up to which coordinates are safe in 64 bits
abbrev pub nearest : ℕ
nearest = 1073741823
