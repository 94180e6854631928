use Rattle.bucket_tree.specs.Nodes.{node_height}
use Rattle.bucket_tree.proofs.top_down.+renew_top_down.Given as goal

abbrev pub decreases-renew_top_down : goal.decreases-renew_top_down
decreases-renew_top_down l = node_height l.node.now
