-- the vertices stay when a point is removed that is not one of them
use Rattle.std.proofs.lemmas.Bool.{not-true}
use Rattle.hull_polygon.proofs.Staying.{stay_without}
use Rattle.lattice.proofs.Tests.{failed}
use Rattle.hull_polygon.proofs.polygon.Polygon.stays_without.Goals as goal

pub returns-clause-stays : goal.returns-clause-stays
returns-clause-stays c = λ t S o.
    stay_without S c.args.self.now.vertices.now c.args.self.now.last c.args.p o c.args.self.now.separated
    (failed c.has_vertex.result _ (not-true c.has_vertex.result t) c.has_vertex.ensures)
