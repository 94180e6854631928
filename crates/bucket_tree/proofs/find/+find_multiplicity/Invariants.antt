use Rattle.bucket_tree.specs.Nodes.{node_height}
use Rattle.bucket_tree.proofs.find.+find_multiplicity.Given as goal

abbrev pub decreases-find_multiplicity : goal.decreases-find_multiplicity
decreases-find_multiplicity l = node_height l.node.now
