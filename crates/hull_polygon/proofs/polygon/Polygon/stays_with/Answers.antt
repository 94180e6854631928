-- the vertices stay when a covered point is added
use Rattle.hull_polygon.proofs.Staying.{stay_with}
use Rattle.hull_polygon.proofs.polygon.Polygon.stays_with.Goals as goal

pub returns-clause-stays : goal.returns-clause-stays
returns-clause-stays c = λ t S o.
    stay_with S c.args.self.now.vertices.now c.args.self.now.last c.args.p o c.args.self.now.separated
    ((c.covers.ensures S o).0 t)
