-- the law is a lemma
use Rattle.hull_polygon.proofs.Casting.{none_before}
use Rattle.hull_polygon.proofs.laws.none_before.Goals as goal

pub returns : goal.returns
returns c = none_before
