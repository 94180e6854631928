-- each way down goes to a lower node; a fork asks for its box first, so it counts twice
use Rattle.std.proofs.Common.{◌+◌, ◌*◌}
use Rattle.hull_tree.specs.Changes.{height_at, height_within}
use Rattle.hull_tree.proofs.change.+remove.Given as goal

abbrev pub decreases-remove : goal.decreases-remove
decreases-remove a = 2 * height_at a.node.now

abbrev pub decreases-remove_below : goal.decreases-remove_below
decreases-remove_below a = 2 * height_within a.halves.now + 1
