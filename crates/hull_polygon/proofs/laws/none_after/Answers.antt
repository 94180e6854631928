-- the law is a lemma
use Rattle.hull_polygon.proofs.Leaving.{none_after}
use Rattle.hull_polygon.proofs.laws.none_after.Goals as goal

pub returns : goal.returns
returns c = none_after
