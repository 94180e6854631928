-- the rules close these at once; the tactic that is tried first takes long
use Rattle.std.proofs.Common.{rules}
use Rattle.lattice.proofs.near.multiplied.Goals as goal

pub overflow_mul-result : goal.overflow_mul-result
overflow_mul-result c = search rules

pub returns-clause-value : goal.returns-clause-value
returns-clause-value c = search rules

pub returns-clause-size : goal.returns-clause-size
returns-clause-size c = search rules
