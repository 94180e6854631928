-- the rules close this at once; the tactic that is tried first takes long
use Rattle.std.proofs.Common.{rules}
use Rattle.hull_polygon.proofs.nearest.is_onward.Goals as goal

pub returns : goal.returns
returns c = search rules
