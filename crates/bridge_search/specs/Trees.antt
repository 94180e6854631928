-- A half of a hull as a finite tree: one point, or two stored edges and two halves of its own.
use Rattle.std.specs.Prelude.{◌≡◌, ℕ, ◌+◌, max, ◌⊎◌, Option, Some, None}
use Rattle.lattice.specs.Plane.{Pair}
use Rattle.lattice.specs.Bridges.{IsAllBefore, IsUpperBridge, IsLowerBridge}

-- one point, or an upper edge, a lower edge, a left and a right half; an edge is its left and its right end
pub data Tree : Type 0 where
  Leaf : Pair → Tree
  Fork : Pair × Pair → Pair × Pair → Tree → Tree → Tree

-- t is a point of the tree
abbrev pub On : Tree → Pair → Type 0
On (Leaf x) t = t ≡ x
On (Fork e f u w) t = On u t ⊎ On w t

-- the stored upper edge; one point has none
abbrev pub edge_of : Tree → Option (Pair × Pair)
edge_of (Leaf x) = None
edge_of (Fork e f u w) = Some e

-- the stored lower edge; one point has none
abbrev pub lower_of : Tree → Option (Pair × Pair)
lower_of (Leaf x) = None
lower_of (Fork e f u w) = Some f

-- the left half; of one point, the point itself
abbrev pub left_of : Tree → Tree
left_of (Leaf x) = Leaf x
left_of (Fork e f u w) = u

-- the right half; of one point, the point itself
abbrev pub right_of : Tree → Tree
right_of (Leaf x) = Leaf x
right_of (Fork e f u w) = w

-- the first point of the tree, farthest to the left
abbrev pub first_of : Tree → Pair
first_of (Leaf x) = x
first_of (Fork e f u w) = first_of u

-- the last point of the tree, farthest to the right
abbrev pub last_of : Tree → Pair
last_of (Leaf x) = x
last_of (Fork e f u w) = last_of w

-- the tree has edges
abbrev pub IsFork : Tree → Type 0
IsFork (Leaf x) = ⊥
IsFork (Fork e f u w) = Unit {0}

-- the law of a half: at each fork all of the left half is before all of the right one, and the stored edges are
-- the two bridges of these halves
abbrev pub IsBridged : Tree → Type 0
IsBridged (Leaf x) = Unit {0}
IsBridged (Fork e f u w) =
    IsAllBefore (On u) (On w) × IsUpperBridge (On u) (On w) e.0 e.1 × IsLowerBridge (On u) (On w) f.0 f.1 × IsBridged u
    × IsBridged w

-- the number of points of the tree
abbrev pub size_of : Tree → ℕ
size_of (Leaf x) = 1
size_of (Fork e f u w) = size_of u + size_of w

-- the height: the most forks on a path to a point
abbrev pub height_of : Tree → ℕ
height_of (Leaf x) = 0
height_of (Fork e f u w) = max (height_of u) (height_of w) + 1

-- t is a point of the tree, n forks down
abbrev pub IsAtDepth : Tree → Pair → ℕ → Type 0
IsAtDepth (Leaf x) t n = (t ≡ x) × (n ≡ 0)
IsAtDepth (Fork e f u w) t n = (k : ℕ) × (n ≡ k + 1) × (IsAtDepth u t k ⊎ IsAtDepth w t k)

-- the greatest height that a half may have: two heights together are a number of 32 bits
abbrev pub highest : ℕ
highest = 2147483647
