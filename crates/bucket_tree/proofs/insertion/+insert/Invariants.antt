use Rattle.bucket_tree.specs.Nodes.{node_height}
use Rattle.bucket_tree.proofs.insertion.+insert.Given as goal

abbrev pub decreases-insert : goal.decreases-insert
decreases-insert l = node_height l.node
