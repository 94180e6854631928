-- the ends of both segments are points of the sets
use Rattle.hull_polygon.proofs.polygon.Polygon.crossing_of_few.Goals as goal

pub returns-in-Some : goal.returns-in-Some
returns-in-Some c = λ S o T t.
    c.in-Some.ensures S T (c.vertex_of-a.ensures S o) (c.vertex_of-b.ensures S o) (c.vertex_of-c.ensures T t)
    (c.vertex_of-d.ensures T t)
