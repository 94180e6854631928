use Rattle.bucket_tree.specs.Nodes.{node_height}
use Rattle.bucket_tree.proofs.in_place.+renew_bottom_up.Given as goal

abbrev pub decreases-renew_bottom_up : goal.decreases-renew_bottom_up
decreases-renew_bottom_up l = node_height l.node.now
