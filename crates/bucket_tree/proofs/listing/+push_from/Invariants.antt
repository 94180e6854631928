-- each half is lower
use Rattle.bucket_tree.specs.Nodes.{node_height}
use Rattle.bucket_tree.proofs.listing.+push_from.Given as goal

abbrev pub decreases-push_from : goal.decreases-push_from
decreases-push_from a = node_height a.node.now
