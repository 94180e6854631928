-- How high a tree of forks over buckets is.
use Rattle.std.proofs.Common.{◌≤◌, length, arith, length-append}
use Rattle.leaf_trees.proofs.Heights.{fewest, over, at_most_28}
use Rattle.bucket_tree.specs.declared.node.Node.{Node, Leaf, Fork', Taken}
use Rattle.bucket_tree.specs.Nodes.{points_below, node_height, HasBuckets, IsBalanced}

-- a balanced node has at least the fewest points of its height
enough : (n : Node) → IsBalanced n → HasBuckets n → (fewest (node_height n)).0 ≤ length (points_below n)
enough (Leaf b) h k = omega (arith, k.some)
enough (Fork' height i left right right_ends upper left_ends lower) h k =
    rw (length-append (points_below left) (points_below right))
    (over (node_height left) (node_height right) (length (points_below left)) (length (points_below right)) h.0
    (enough left h.1 k.0) (enough right h.2 k.1))
enough Taken h k = absurd k

-- of at most 2^20 points it is at most 28 forks high
pub no_higher : (n : Node) → IsBalanced n → HasBuckets n → length (points_below n) ≤ 1048576 → node_height n ≤ 28
no_higher n h k l = at_most_28 (node_height n) (length (points_below n)) (enough n h k) l
