-- A balanced tree of at most 2^20 points is at most 28 high.
use Rattle.std.proofs.Common.{◌≤◌, length, length-append, arith}
use Rattle.bridge_search.specs.Trees.{Tree, Leaf, Fork, height_of}
use Rattle.bridge_search.specs.Leaves.{points_of}
use Rattle.leaf_trees.proofs.Heights.{fewest, over}
use Rattle.leaf_trees.proofs.Heights as heights
use Rattle.leaf_trees.specs.Heights.{greatest_height}
use Rattle.hull_tree.specs.Nodes.{IsBalanced}

-- a balanced tree has at least the fewest points of its height
enough : (t : Tree) → IsBalanced t → (fewest (height_of t)).0 ≤ length (points_of t)
enough (Leaf x) h = omega arith
enough (Fork e f u w) h =
    rw (length-append (points_of u) (points_of w))
    (over (height_of u) (height_of w) (length (points_of u)) (length (points_of w)) h.0 (enough u h.1) (enough w h.2))

-- so it is at most 28 high
pub at_most_28 : (t : Tree) → IsBalanced t → length (points_of t) ≤ 1048576 → height_of t ≤ greatest_height
at_most_28 t h l = heights.at_most_28 (height_of t) (length (points_of t)) (enough t h) l
