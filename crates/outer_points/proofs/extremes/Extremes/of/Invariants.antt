-- they are those of the first points
use Rattle.outer_points.specs.Extremes.{AreBelow}
use Rattle.outer_points.proofs.extremes.Extremes.of.Given as goal

abbrev pub invariant-loop-at : goal.invariant-loop-at
invariant-loop-at l = AreBelow l.at l.extremes
