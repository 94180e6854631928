-- a sort only moves the points, so each is among them as often
use Rattle.hull_set.proofs.OrderedMaps.{ascending}
use Rattle.leaf_trees.proofs.entries.entries_of.Goals as goal

pub counted-requires-clause-ascending : goal.counted-requires-clause-ascending
counted-requires-clause-ascending c = rw c.deref.ensures.value (ascending _ c.sort_unstable.ensures.sorted)
