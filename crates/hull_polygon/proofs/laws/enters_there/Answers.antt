-- the law is a lemma
use Rattle.hull_polygon.proofs.Casting.{enters_there}
use Rattle.hull_polygon.proofs.laws.enters_there.Goals as goal

pub returns : goal.returns
returns c = enters_there
