-- each half is lower
use Rattle.bucket_tree.specs.Nodes.{node_height}
use Rattle.bucket_tree.proofs.listing.+push_entries.Given as goal

abbrev pub decreases-push_entries : goal.decreases-push_entries
decreases-push_entries a = node_height a.node.now
