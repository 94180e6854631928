-- grind closes these at once; the tactic that is tried first takes long
use Rattle.std.proofs.Common.{arith}
use Rattle.std.proofs.lemmas.Grind.{common_steps}
use Rattle.hull_polygon.proofs.bisection.first_failing.Goals as goal

pub loop-edges-preserved-then-holds : goal.loop-edges-preserved-then-holds
loop-edges-preserved-then-holds c = grind (arith, common_steps)

pub loop-edges-preserved : goal.loop-edges-preserved
loop-edges-preserved c = grind (arith, common_steps)
