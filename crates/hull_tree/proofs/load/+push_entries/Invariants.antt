-- each half is lower
use Rattle.hull_tree.specs.Changes.{height_at}
use Rattle.hull_tree.proofs.load.+push_entries.Given as goal

abbrev pub decreases-push_entries : goal.decreases-push_entries
decreases-push_entries a = height_at a.node.now
