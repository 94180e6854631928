-- grind closes this at once, and refuses a mutant that fails it sooner than a search
use Rattle.std.proofs.Common.{arith}
use Rattle.std.proofs.lemmas.Grind.{common_steps}
use Rattle.hullbook.proofs.run.run.Goals as goal

pub returns : goal.returns
returns c = grind (arith, common_steps)
