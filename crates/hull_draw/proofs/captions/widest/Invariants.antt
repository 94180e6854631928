-- The widest so far and of the rest is the widest of all.
use Rattle.std.proofs.Common.{◌≡◌, length}
use Rattle.hull_draw.specs.Captions.{widest_from}
use Rattle.hull_draw.proofs.captions.widest.Given as goal

abbrev pub invariant-loop-point : goal.invariant-loop-point
invariant-loop-point l = widest_from l.widest l.rest ≡ widest_from 0 l.points

abbrev pub decreases-loop-point : goal.decreases-loop-point
decreases-loop-point l = length l.rest
