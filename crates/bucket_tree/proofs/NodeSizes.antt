-- The vertices below a node are no more than its points.
use Rattle.std.proofs.Common.{◌<◌, ◌≤◌, length, arith}
use Rattle.std.specs.List.{Contains}
use Rattle.lattice.specs.declared.side.Side.TheVariants.{Lower}
use Rattle.lattice.proofs.Order.{before_apart}
use Rattle.bridge_search.specs.Leaves.{points_of}
use Rattle.bridge_search.specs.Trees.{Tree, Leaf, Fork, height_of, size_of}
use Rattle.bridge_search.proofs.Leaves.{on_of_contains, points_in_order, size_is_length}
use Rattle.hull_geometry.proofs.FewVertices.{distinct_few}
use Rattle.hull_geometry.proofs.PointLists.{all_of}
use Rattle.bucket_tree.specs.declared.node.Node.{Node}
use Rattle.bucket_tree.specs.Nodes.{tree_of, points_below, IsWellBuilt}
use Rattle.bucket_tree.proofs.NodeCandidateLists.{node_candidates}

-- a tree is less high than it has points
pub height_size : (t : Tree) → height_of t < size_of t
height_size (Leaf x) = omega arith
height_size (Fork e f u w) = omega (arith, height_size u, height_size w)

-- the vertices below a node are no more than its points
pub few_vertices : (n : Node) → IsWellBuilt n → size_of (tree_of n) ≤ length (points_below n)
few_vertices n w =
    let m = distinct_few (points_of (tree_of n)) (points_below n)
    (λ i j d lt l. before_apart _ _ (points_in_order (tree_of n) w.bridged i j d lt l))
    (all_of (Contains (points_below n)) (points_of (tree_of n))
    (λ t i. (node_candidates Lower n w.buckets).among t (on_of_contains (tree_of n) t i))) in
    omega (arith, m, size_is_length (tree_of n))
