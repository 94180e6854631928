-- the law is a lemma
use Rattle.hull_polygon.proofs.FarApart.{none_closer}
use Rattle.hull_polygon.proofs.laws.none_closer.Goals as goal

pub returns : goal.returns
returns c = none_closer
