use Rattle.bucket_tree.specs.Nodes.{node_height}
use Rattle.bucket_tree.proofs.in_place.+change_bucket.Given as goal

abbrev pub decreases-change_bucket : goal.decreases-change_bucket
decreases-change_bucket g l = node_height l.node.now
