-- The conditions of a change below a node, and what it preserves.
use Rattle.std.specs.Prelude.{◌≡◌, ℕ, ◌+◌, ◌≤◌, max, List, ◌++◌}
use Rattle.lattice.specs.Bridges.{IsBridge}
use Rattle.lattice.specs.Covers.{IsPointSet}
use Rattle.lattice.specs.Plane.{Pair}
use Rattle.lattice.specs.declared.side.Side.{Side}
use Rattle.bridge_search.specs.Trees.{On, left_of, right_of, first_of, last_of, height_of}
use Rattle.bridge_search.specs.Leaves.{points_of}
use Rattle.hull_tree.specs.declared.node.Node.{Node}
use Rattle.hull_tree.specs.declared.node.Node as node
use Rattle.hull_tree.specs.declared.node.Halves.{Halves}
use Rattle.hull_tree.specs.declared.node.Halves as halves
use Rattle.hull_tree.specs.Nodes.{tree_of, left_half, right_half, before_split, after_split, multiplicity_below}
use Rattle.hull_tree.specs.Nodes.{IsWellBuilt, DifferByAtMost}

-- the points below a node, in order
abbrev pub points_below : Node → List Pair
points_below n = points_of (tree_of n)

-- the height of a node: the number of forks above its deepest point
abbrev pub height_at : Node → ℕ
height_at n = height_of (tree_of n)

-- two well-built nodes, all points of the one before all points of the other
pub record AreInRow (l r : Node) : Type 0 where
  pub left_built : IsWellBuilt l
  pub right_built : IsWellBuilt r
  pub in_order : IsPointSet (points_below l ++ points_below r)

-- two nodes in a row, with the last point of the one and the first one of the other
pub record IsSeparatedAt (l r : Node) (last first : Pair) : Type 0 where
  pub row : AreInRow l r
  pub ends_left : last ≡ last_of (tree_of l)
  pub starts_right : first ≡ first_of (tree_of r)

-- the points of two halves, in order
abbrev pub points_within : Halves → List Pair
points_within h = points_below (left_half h) ++ points_below (right_half h)

-- the multiplicity of each point in them
abbrev pub multiplicity_within : Halves → Pair → ℕ
multiplicity_within h q = multiplicity_below (left_half h) q + multiplicity_below (right_half h) q

-- the height of the higher one of them
abbrev pub height_within : Halves → ℕ
height_within h = max (height_at (left_half h)) (height_at (right_half h))

-- n is m, or one more
abbrev pub IsAtMostOneMore : ℕ → ℕ → Type 0
IsAtMostOneMore m n = (m ≤ n) × (n ≤ m + 1)

-- two nodes in a row that store the points at their split
abbrev pub AreSeparated : Halves → Type 0
AreSeparated h = IsSeparatedAt (left_half h) (right_half h) (before_split h) (after_split h)

-- a fork over two such halves, whose edges and height may still have to be renewed
abbrev pub IsSeparated : Node → Type 0
IsSeparated (node.Node' upper lower height near multiplicity node.None') = ⊥
IsSeparated (node.Node' upper lower height near multiplicity (node.Some' i (halves.Halves' left right last_left right_first))) =
    IsSeparatedAt left right last_left right_first

-- the height of a node's left half; for a leaf its own
abbrev pub left_height : Node → ℕ
left_height n = height_of (left_of (tree_of n))

-- the height of a node's right half; for a leaf its own
abbrev pub right_height : Node → ℕ
right_height n = height_of (right_of (tree_of n))

-- the height h of a node that is made of two of heights l and r: that of the fork over them, or one less if they differ by two
abbrev pub IsHeightOver : ℕ → ℕ → ℕ → Type 0
IsHeightOver l r h = IsAtMostOneMore (max l r) h × (DifferByAtMost 1 l r → h ≡ max l r + 1)

-- e is the bridge of two halves on this side
abbrev pub IsBridgeOf : Side → Halves → Pair × Pair → Type 0
IsBridgeOf side h e = IsBridge side (On (tree_of (left_half h))) (On (tree_of (right_half h))) e.0 e.1
