-- the reversed separation of the other hull from this one
use Rattle.hull_polygon.proofs.Witnessed.{apart_turned}
use Rattle.hull_polygon.proofs.polygon.Polygon.separation.Goals as goal

pub separation_from_few-requires-then-self-lt3-clause-apart :
    goal.separation_from_few-requires-then-self-lt3-clause-apart
separation_from_few-requires-then-self-lt3-clause-apart c = λ T t S o. apart_turned S T (c.requires.apart S o T t)

pub turned_separation-requires-clause-parts : goal.turned_separation-requires-clause-parts
turned_separation-requires-clause-parts c = λ S o T t. c.separation_from_few-then-self-lt3.ensures T t S o
