-- grind closes these at once; the tactics that are tried first take long
use Rattle.std.proofs.Common.{arith}
use Rattle.std.proofs.lemmas.Grind.{common_steps}
use Rattle.leaf_trees.proofs.entries.is_next.Goals as goal

pub returns-clause-first : goal.returns-clause-first
returns-clause-first c = grind (arith, common_steps)

pub returns-clause-second : goal.returns-clause-second
returns-clause-second c = grind (arith, common_steps)
