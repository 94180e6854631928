-- both coordinates are those of the translated point
use Rattle.std.proofs.Common.{rules}
use Rattle.polygon_arrays.proofs.translated.point_after.Goals as goal

pub returns : goal.returns
returns c = rw (← c.p.view_is) (search rules)
