-- The extent of a set of points in a direction, the two points that are farthest from each other, and the direction in
-- which it is least wide.
use Rattle.std.specs.Prelude.{◌≡◌, ◌⊎◌, ℕ, ◌+◌, ◌<◌, ℤ, ◌+ℤ◌, ◌-ℤ◌, ◌*ℤ◌, ◌≤ℤ◌, ◌<ℤ◌, List}
use Rattle.std.specs.List.{All, Contains}
use Rattle.lattice.specs.Plane.{Pair, orient, product, distance_squared}
use Rattle.lattice.specs.Vertices.{IsLeftOf}
use Rattle.hull_geometry.specs.Tangents.{IsFirstFarthest}
use Rattle.hull_polygon.specs.Rounds.{vertex}
use Rattle.hull_polygon.specs.Steps.{left_of}
use Rattle.hull_polygon.specs.declared.strips.Strip.{Strip}

-- in the direction d no point of S lies farther than another by more than n, and one does by n: the width of S along d
-- is n divided by the length of d
pub record IsExtent (S : List Pair) (d : Pair) (n : ℤ) : Type 0 where
  pub most : (s t : Pair) → Contains S s → Contains S t → (product d s -ℤ product d t) ≤ℤ n
  pub reached : (s : Pair) × (t : Pair) × Contains S s × Contains S t × (product d s -ℤ product d t ≡ n)

-- no two points of S are farther apart than p and q: their distance is the diameter
pub record IsDiameter (S : List Pair) (p q : Pair) : Type 0 where
  pub start : Contains S p
  pub end : Contains S q
  pub farthest : (s t : Pair) → Contains S s → Contains S t → distance_squared s t ≤ℤ distance_squared p q

-- ---- in one pass over the vertices

-- r is the pair of points with the greater distance, of two pairs
abbrev pub IsFarther : Pair × Pair → Pair × Pair → Pair × Pair → Type 0
IsFarther p q r =
    ((r ≡ p) × (distance_squared q.0 q.1 ≤ℤ distance_squared p.0 p.1))
    ⊎ ((r ≡ q) × (distance_squared p.0 p.1 ≤ℤ distance_squared q.0 q.1))

-- for each of the first n vertices V of S, its distance to the first of the points farthest to the left of its edge is
-- at most that of p and q
abbrev pub IsDiameterOf : List Pair → List Pair → ℕ → Pair → Pair → Type 0
IsDiameterOf S V n p q =
    Contains S p × Contains S q
    × ((i : ℕ) → i < n → (f : Pair) × IsFirstFarthest S (left_of (vertex V i) (vertex V (i + 1))) f
    × (distance_squared (vertex V i) f ≤ℤ distance_squared p q))

-- ---- the least width

-- the square of the length of a direction
abbrev pub length_squared : Pair → ℤ
length_squared d = d.x *ℤ d.x +ℤ d.y *ℤ d.y

-- the width of a strip, times the length of its edge: twice the area of its edge and its farthest point
abbrev pub side_of : Strip → ℤ
side_of w = orient w.from w.to w.farthest

-- the square of the length of its edge
abbrev pub edge_squared : Strip → ℤ
edge_squared w = distance_squared w.from w.to

-- all of S lies left of the line through two of its points, and no point farther than a third
pub record IsStrip (S : List Pair) (w : Strip) : Type 0 where
  pub start : Contains S w.from
  pub end : Contains S w.to
  pub apart : ¬ (w.from ≡ w.to)
  pub left : IsLeftOf S w.from w.to
  pub there : Contains S w.farthest
  pub farthest : All (λ t. orient w.from w.to t ≤ℤ side_of w) S

-- in no direction, of whole numbers of any size, S is less wide than that strip: the square of its extent, divided by
-- the squared length of the direction, is no less than that of the strip by its edge
pub record IsLeastWidth (S : List Pair) (w : Strip) : Type 0 where
  pub strip : IsStrip S w
  pub least : (d : Pair) (n : ℤ) → IsExtent S d n
      → ((side_of w *ℤ side_of w) *ℤ length_squared d) ≤ℤ ((n *ℤ n) *ℤ edge_squared w)

-- all points of S are equal
abbrev pub IsOnePoint : List Pair → Type 0
IsOnePoint S = (s t : Pair) → Contains S s → Contains S t → s ≡ t

-- the strip p is less wide than q
abbrev pub IsThinner : Strip → Strip → Type 0
IsThinner p q = ((side_of p *ℤ side_of p) *ℤ edge_squared q) <ℤ ((side_of q *ℤ side_of q) *ℤ edge_squared p)

-- r is q if that is thinner than p, else p
abbrev pub IsThinnerOf : Strip → Strip → Strip → Type 0
IsThinnerOf p q r = ((r ≡ p) × ¬ IsThinner q p) ⊎ ((r ≡ q) × IsThinner q p)

-- the strip of the edge from the vertex at i, with the first of the points farthest to its left
pub record IsStripAt (S V : List Pair) (i : ℕ) (w : Strip) : Type 0 where
  pub from_vertex : w.from ≡ vertex V i
  pub to_next : w.to ≡ vertex V (i + 1)
  pub opposite : IsFirstFarthest S (left_of (vertex V i) (vertex V (i + 1))) w.farthest

-- w is a strip of S, and none of those of the first n edges of its vertices V is thinner
abbrev pub IsThinnestOf : List Pair → List Pair → ℕ → Strip → Type 0
IsThinnestOf S V n w =
    IsStrip S w × ((i : ℕ) → i < n → (f : Pair) × Contains S f
    × (((side_of w *ℤ side_of w) *ℤ distance_squared (vertex V i) (vertex V (i + 1)))
    ≤ℤ ((orient (vertex V i) (vertex V (i + 1)) f *ℤ orient (vertex V i) (vertex V (i + 1)) f) *ℤ edge_squared w)))
