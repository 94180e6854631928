-- grind closes these at once; the tactic that is tried first takes long
use Rattle.std.proofs.Common.{arith}
use Rattle.std.proofs.lemmas.Grind.{common_steps}
use Rattle.hull_polygon.proofs.bisection.first_failing_back.Goals as goal

pub returns-then-holds-clause-held : goal.returns-then-holds-clause-held
returns-then-holds-clause-held c = grind (arith, common_steps)

pub returns-else-place-end-clause-fails : goal.returns-else-place-end-clause-fails
returns-else-place-end-clause-fails c = grind (arith, common_steps)
