-- both coordinates are those of the point
use Rattle.std.proofs.Common.{rules}
use Rattle.polygon_arrays.proofs.steps.is_in_range_after.Goals as goal

pub returns-then-is_coordinate_after : goal.returns-then-is_coordinate_after
returns-then-is_coordinate_after c = rw (← c.p.view_is) (search rules)
