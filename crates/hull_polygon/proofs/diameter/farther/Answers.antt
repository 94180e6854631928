-- the rules close these at once; the tactic that is tried first takes long
use Rattle.std.proofs.Common.{rules}
use Rattle.hull_polygon.proofs.diameter.farther.Goals as goal

pub returns-then-distance_squared : goal.returns-then-distance_squared
returns-then-distance_squared c = search rules

pub returns-else-distance_squared : goal.returns-else-distance_squared
returns-else-distance_squared c = search rules
