-- the opposite direction, with the farthest point there
use Rattle.hull_polygon.proofs.Witnessed.{separation_turned}
use Rattle.hull_polygon.proofs.polygon.Polygon.turned_separation.Goals as goal

pub returns : goal.returns
returns c = λ S o T t.
    separation_turned S T c.args.found _ _ (c.requires.parts S o T t) c.back-direction.ensures (c.farthest.ensures S o)
