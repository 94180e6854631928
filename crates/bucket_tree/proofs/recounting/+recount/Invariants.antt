use Rattle.bucket_tree.specs.Nodes.{node_height}
use Rattle.bucket_tree.proofs.recounting.+recount.Given as goal

abbrev pub decreases-recount : goal.decreases-recount
decreases-recount l = node_height l.node.now
