use Rattle.bucket_tree.specs.Nodes.{node_height}
use Rattle.bucket_tree.proofs.removal.+remove.Given as goal

abbrev pub decreases-remove : goal.decreases-remove
decreases-remove l = node_height l.node
