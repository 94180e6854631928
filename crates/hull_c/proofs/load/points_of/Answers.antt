-- grind closes these at once; what is tried first takes long
use Rattle.std.proofs.Common.{arith}
use Rattle.std.proofs.lemmas.Grind.{common_steps}
use Rattle.hull_c.proofs.load.points_of.Goals as goal

pub loop-i-preserved : goal.loop-i-preserved
loop-i-preserved c = grind (arith, common_steps)

pub returns-clause-all : goal.returns-clause-all
returns-clause-all c = grind (arith, common_steps)
