-- the law is a lemma
use Rattle.hull_polygon.proofs.Insides.{none_inside_divided}
use Rattle.hull_polygon.proofs.laws.none_inside_divided.Goals as goal

pub returns : goal.returns
returns c = none_inside_divided
