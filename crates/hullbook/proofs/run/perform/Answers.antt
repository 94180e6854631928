-- grind closes this at once, and refuses a mutant that fails it sooner than a search
use Rattle.std.proofs.Common.{arith}
use Rattle.std.proofs.lemmas.Grind.{common_steps}
use Rattle.hullbook.proofs.run.perform.Goals as goal

pub returns-clause-ran : goal.returns-clause-ran
returns-clause-ran c = grind (arith, common_steps)
