-- the rules close these at once; the tactic that is tried first takes long
use Rattle.std.proofs.Common.{rules}
use Rattle.lattice.proofs.compare.before.Goals as goal

pub returns-then-x : goal.returns-then-x
returns-then-x c = search rules

pub returns-then-x-2 : goal.returns-then-x-2
returns-then-x-2 c = search rules

pub returns-else-x-2 : goal.returns-else-x-2
returns-else-x-2 c = search rules
