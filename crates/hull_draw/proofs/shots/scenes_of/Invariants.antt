-- The scenes so far are shots, none of which ended at a wrong line.
use Rattle.std.proofs.Common.{◌≤◌, ◌-◌, length}
use Rattle.hull_draw.specs.Films.{AreShots, AreAllRight}
use Rattle.hull_draw.proofs.shots.scenes_of.Given as goal

abbrev pub invariant-loop-alloc : goal.invariant-loop-alloc
invariant-loop-alloc l =
    AreShots l.journal l.size 0 l.scenes.items × AreAllRight l.scenes.items × (length l.scenes.items ≤ l.count)

abbrev pub decreases-loop-alloc : goal.decreases-loop-alloc
decreases-loop-alloc l = l.count - length l.scenes.items
