-- `without_point` removes only the point, so the order stays
use Rattle.hull_geometry.proofs.SetLaws.{without_point_law}
use Rattle.hull_geometry.proofs.laws.without_point_takes_the_point.Goals as goal

pub returns : goal.returns
returns c = without_point_law
