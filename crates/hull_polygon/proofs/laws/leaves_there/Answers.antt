-- the law is a lemma
use Rattle.hull_polygon.proofs.Leaving.{leaves_there}
use Rattle.hull_polygon.proofs.laws.leaves_there.Goals as goal

pub returns : goal.returns
returns c = leaves_there
