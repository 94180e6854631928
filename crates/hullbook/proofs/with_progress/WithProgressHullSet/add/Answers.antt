-- grind closes these at once, and refuses a mutant that fails one sooner than a search
use Rattle.std.proofs.Common.{arith}
use Rattle.std.proofs.lemmas.Grind.{common_steps}
use Rattle.hullbook.proofs.with_progress.WithProgressHullSet.add.Goals as goal

pub returns-clause-reply : goal.returns-clause-reply
returns-clause-reply c = grind (arith, common_steps)

pub returns-clause-effect : goal.returns-clause-effect
returns-clause-effect c = grind (arith, common_steps)

pub returns-clause-sound : goal.returns-clause-sound
returns-clause-sound c = grind (arith, common_steps)
