-- each half is lower
use Rattle.bucket_tree.specs.Nodes.{node_height}
use Rattle.bucket_tree.proofs.nearest.+nearest_below.Given as goal

abbrev pub decreases-nearest_below : goal.decreases-nearest_below
decreases-nearest_below a = node_height a.node.now
