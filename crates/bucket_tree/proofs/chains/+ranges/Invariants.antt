-- each half of a fork has less height; a range of a node is asked for before the node is, and the node before its fork
use Rattle.std.specs.Prelude.{◌+◌, ◌*◌}
use Rattle.bridge_search.specs.Trees.{height_of}
use Rattle.bucket_tree.specs.Nodes.{tree_at, tree_of}
use Rattle.bucket_tree.proofs.chains.+ranges.Given as goal

abbrev pub decreases-push_range : goal.decreases-push_range
decreases-push_range l = 3 * height_of (tree_of l.node.now) + 2

abbrev pub decreases-push_long_range : goal.decreases-push_long_range
decreases-push_long_range l = 3 * height_of (tree_of l.node.now) + 1

abbrev pub decreases-push_through : goal.decreases-push_through
decreases-push_through l = 3 * height_of (tree_at l.fork.now)
