-- The finite tree that a node represents, and the conditions of being well built (Overmars and van Leeuwen, 1981; Adelson-Velsky and Landis, 1962).
use Rattle.std.specs.Prelude.{◌≡◌, ℕ, Bool, ◌+◌, ◌≤◌, Option, Some, None, option_map}
use Rattle.lattice.specs.Plane.{Pair}
use Rattle.bridge_search.specs.Trees.{Tree, Leaf, Fork, IsBridged, first_of, last_of, height_of}
use Rattle.bridge_search.specs.Near.{is_near, are_near}
use Rattle.leaf_trees.specs.Entries.{several, IsMultiplicity}
use Rattle.hull_tree.specs.declared.node.Node.{Node, out-Node}
use Rattle.hull_tree.specs.declared.node.Node as node
use Rattle.hull_tree.specs.declared.node.Halves.{Halves, out-Halves}
use Rattle.hull_tree.specs.declared.node.Halves as halves

-- the tree of a node: a node with nothing below it is one point, which is both ends of the edges that it stores
abbrev pub tree_of : Node → Tree
tree_of (node.Node' upper lower height near multiplicity node.None') = Leaf upper.0
tree_of (node.Node' upper lower height near multiplicity (node.Some' i (halves.Halves' left right last_left right_first))) =
    Fork upper lower (tree_of left) (tree_of right)

-- the left one of two halves
abbrev pub left_half : Halves → Node
left_half h = (out-Halves h).left

-- the right one
abbrev pub right_half : Halves → Node
right_half h = (out-Halves h).right

-- the point before the split, as two halves store it
abbrev pub before_split : Halves → Pair
before_split h = (out-Halves h).last_left

-- the point after it
abbrev pub after_split : Halves → Pair
after_split h = (out-Halves h).right_first

-- the node with other edges, another height and another flag whether its points are near, and the same halves
abbrev pub keeping : Node → Pair × Pair → Pair × Pair → ℕ → Bool → Node
keeping (node.Node' upper lower height near multiplicity below) e f h n = node.Node' e f h n multiplicity below

-- the halves of a fork; for a leaf nothing
abbrev pub below_of : Node → Option Halves
below_of n = option_map (λ b. b.value) (out-Node n).below

-- the left and the right half of a fork; for a leaf nothing
abbrev pub halves_of : Node → Option (Node × Node)
halves_of (node.Node' upper lower height near multiplicity node.None') = None
halves_of (node.Node' upper lower height near multiplicity (node.Some' i (halves.Halves' left right last_left right_first))) =
    Some (left, right)

-- the point of a leaf; for a fork nothing
abbrev pub point_of : Node → Option Pair
point_of (node.Node' upper lower height near multiplicity node.None') = Some upper.0
point_of (node.Node' upper lower height near multiplicity
    (node.Some' i (halves.Halves' left right last_left right_first))) = None

-- the multiplicity of a leaf's point; for a fork nothing
abbrev pub multiplicity_of : Node → Option ℕ
multiplicity_of (node.Node' upper lower height near multiplicity node.None') = Some multiplicity
multiplicity_of (node.Node' upper lower height near multiplicity
    (node.Some' i (halves.Halves' left right last_left right_first))) = None

-- the multiplicity of each point below a node
abbrev pub multiplicity_below : Node → Pair → ℕ
multiplicity_below (node.Node' upper lower height near multiplicity node.None') q = several multiplicity upper.0 q
multiplicity_below (node.Node' upper lower height near multiplicity
    (node.Some' i (halves.Halves' left right last_left right_first))) q = multiplicity_below left q + multiplicity_below right q

-- the numbers differ by at most this
abbrev pub DifferByAtMost : ℕ → ℕ → ℕ → Type 0
DifferByAtMost most m n = (m ≤ n + most) × (n ≤ m + most)

-- at each fork the heights of the two halves differ by at most one
abbrev pub IsBalanced : Tree → Type 0
IsBalanced (Leaf x) = Unit {0}
IsBalanced (Fork e f u w) = DifferByAtMost 1 (height_of u) (height_of w) × IsBalanced u × IsBalanced w

-- each node stores its height and whether its points are near, each leaf the multiplicity of its point, and each fork the last point of its left half
-- and the first one of its right half
abbrev pub IsLabelled : Node → Type 0
IsLabelled (node.Node' upper lower height near multiplicity node.None') =
    (height ≡ 0) × IsMultiplicity multiplicity × (near ≡ is_near upper.0)
IsLabelled (node.Node' upper lower height near multiplicity (node.Some' i (halves.Halves' left right last_left right_first))) =
    (last_left ≡ last_of (tree_of left)) × (right_first ≡ first_of (tree_of right))
    × (height ≡ height_of (Fork upper lower (tree_of left) (tree_of right))) × IsLabelled left × IsLabelled right
    × (near ≡ are_near (Fork upper lower (tree_of left) (tree_of right)))

-- a well-built node: each fork's left half is before its right one and its stored edges are the bridges of the two, it is balanced, and it stores its
-- height and the points at its split; each leaf's point has a multiplicity that a point may have
pub record IsWellBuilt (n : Node) : Type 0 where
  pub bridged : IsBridged (tree_of n)
  pub balanced : IsBalanced (tree_of n)
  pub labelled : IsLabelled n
