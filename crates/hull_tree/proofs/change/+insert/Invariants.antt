-- each way down goes to a lower node; a fork asks for its box first, so it counts twice
use Rattle.std.proofs.Common.{◌+◌, ◌*◌}
use Rattle.hull_tree.specs.Changes.{height_at, height_within}
use Rattle.hull_tree.proofs.change.+insert.Given as goal

abbrev pub decreases-insert : goal.decreases-insert
decreases-insert a = 2 * height_at a.node.now

abbrev pub decreases-insert_below : goal.decreases-insert_below
decreases-insert_below a = 2 * height_within a.halves.now + 1
