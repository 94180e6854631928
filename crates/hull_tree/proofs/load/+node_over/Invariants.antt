-- each half is shorter
use Rattle.std.proofs.Common.{length}
use Rattle.hull_tree.proofs.load.+node_over.Given as goal

abbrev pub decreases-node_over : goal.decreases-node_over
decreases-node_over l = length l.entries.now
