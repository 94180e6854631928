-- `with_point` inserts the point at its position in the order, or returns a list that has it as it is
use Rattle.hull_geometry.proofs.SetLaws.{with_point_law}
use Rattle.hull_geometry.proofs.laws.with_point_adds_the_point.Goals as goal

pub returns : goal.returns
returns c = with_point_law
