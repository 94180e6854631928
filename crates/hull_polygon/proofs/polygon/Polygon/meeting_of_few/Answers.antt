-- a vertex of the other hull that this one covers
use Rattle.hull_polygon.proofs.polygon.Polygon.meeting_of_few.Goals as goal

pub returns-in-Some-covered_of : goal.returns-in-Some-covered_of
returns-in-Some-covered_of c = λ S o T t. c.in-Some-covered_of.ensures T t S o
