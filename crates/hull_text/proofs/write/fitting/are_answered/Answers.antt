-- grind closes these at once; what is tried first takes long
use Rattle.std.proofs.Common.{arith}
use Rattle.std.proofs.lemmas.Grind.{common_steps}
use Rattle.hull_text.proofs.write.fitting.are_answered.Goals as goal

pub returns-then-not-has_calls : goal.returns-then-not-has_calls
returns-then-not-has_calls c = grind (arith, common_steps)

pub loop-worker-preserved : goal.loop-worker-preserved
loop-worker-preserved c = grind (arith, common_steps)
