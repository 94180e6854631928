-- The boxes of polygons.
use Rattle.std.specs.Prelude.{◌≢◌, ◌⊎◌, ℕ, ℤ, pos, ◌-◌, ◌*◌, ◌<◌, ◌≤◌, ◌-ℤ◌, List, length, map}
use Rattle.std.specs.List.{All, AllPairs, Contains}
use denote.Ref.{Bor}
use Rattle.lattice.specs.Plane.{Pair}
use Rattle.lattice.specs.declared.TheConstants.{COORDINATE_LIMIT}
use Rattle.hull_polygon.specs.Boxes.{IsBox}
use Rattle.hull_polygon.specs.Polygons.{HoldsOfSetsOf}
use Rattle.hull_polygon.specs.declared.ranges.Length.{Length}
use Rattle.polygon_pairs.specs.declared.boxed.Boxed.{Boxed}
use Rattle.polygon_pairs.specs.Pairs.{polygon_at}

-- the coordinate that a side is stored for: sides count from the least coordinate
abbrev pub side_at : ℕ → ℤ
side_at n = pos n -ℤ COORDINATE_LIMIT

-- the sides are those of the box of these vertices, of which there are some
abbrev pub IsBoxOf : List Pair → Boxed → Type 0
IsBoxOf vertices b =
    (0 < length vertices) × HoldsOfSetsOf vertices (λ S. IsBox S
    (record { x = side_at b.left; y = side_at b.bottom }) (record { x = side_at b.right; y = side_at b.top }))

-- the box is that of the polygon of its index
abbrev pub IsBoxAmong : List (Bor (List Pair)) → Boxed → Type 0
IsBoxAmong polygons b = (b.index < length polygons) × IsBoxOf (polygon_at polygons b.index) b

-- the boxes of the first polygons, each once, but for those without vertices
pub record AreBoxes (polygons : List (Bor (List Pair))) (count : ℕ) (boxes : List Boxed) : Type 0 where
  pub each : All (IsBoxAmong polygons) boxes
  pub all : (i : ℕ) → i < count → 0 < length (polygon_at polygons i) → Contains (map (λ b. b.index) boxes) i
  pub few : length boxes ≤ count
  pub distinct : AllPairs (λ i j. i ≢ j) (map (λ b. b.index) boxes)

-- the second box begins farther right of the first than the length
abbrev pub BeginsBeyond : Length → Boxed → Boxed → Type 0
BeginsBeyond r here there = r.numerator < r.denominator * (there.left - here.right)

-- one of the boxes lies farther above the other than the length
abbrev pub AreAcross : Length → Boxed → Boxed → Type 0
AreAcross r here there =
    (r.numerator < r.denominator * (there.bottom - here.top)) ⊎ (r.numerator < r.denominator * (here.bottom - there.top))
